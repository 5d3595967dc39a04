-- What a call with a name has written is what the joined name reads.
use Prim.Native.Nat.{ℕ, zero, suc, ◌+◌, ◌*◌, ◌<◌, ◌≤◌}
use mathlib.Core.Path.{◌≡◌, sym, ap, ◌∙◌}
use mathlib.Core.List.{List, [], ◌∷◌, ◌++◌, append_assoc}
use native.Mathlib.Omega.{arith}
use native.Mathlib.Decide.{dec_lt}
use borrow.Author.Tests.{le-ltb, lt-ltb}
use lib.ListN.{length, get_or, take, drop, length-append}
use lib.Seq.{take_at, drop_at, drop-drop, get_or-append-add}
use Rattle.names_values.specs.declared.Name.{Name}
use Rattle.capi_names.specs.Names.{misfit, name_at, record_of}
use Rattle.promises_capi.specs.Records.{records_of, Whole, none, more}

module _ (m : Name) (l : List ℕ) (e : length m.bytes ≡ 32) where
  record_long : length (record_of m) ≡ 33
  record_long = length-append m.bytes (m.length ∷ []) ∙ rw e

  both_long : length (record_of m ++ l) ≡ 33 + length l
  both_long = length-append (record_of m) l ∙ rw record_long

  read_first : name_at (record_of m ++ l) 0 ≡ m
  unfolding name_at
  read_first =
      let d : 33 ≤ length (record_of m ++ l) = omega (arith, both_long) in
      let s : record_of m ++ l ≡ m.bytes ++ (m.length ∷ l) = append_assoc m.bytes (m.length ∷ []) l in
      let b : take 32 (record_of m ++ l) ≡ m.bytes = ap (take 32) s ∙ take_at m.bytes (m.length ∷ l) 32 e in
      let z : length m.bytes + 0 ≡ 32 = omega (arith, e) in
      let k : get_or (record_of m ++ l) 32 0 ≡ m.length =
      ap (λ (x : List ℕ). get_or x 32 0) s ∙ sym (ap (λ (i : ℕ). get_or (m.bytes ++ (m.length ∷ l)) i 0) z) ∙ get_or-append-add m.bytes (m.length ∷ l) 0 0 in
      rw (le-ltb _ _ d, b, k)

  read_later : (i : ℕ) → name_at (record_of m ++ l) (suc i) ≡ name_at l i
  unfolding name_at
  read_later i = by (dec_lt (length l) (i * 33 + 33)) where
    b : drop (suc i * 33) (record_of m ++ l) ≡ drop (i * 33) l
    b =
        let z : suc i * 33 ≡ 33 + i * 33 = omega arith in
        ap (λ (k : ℕ). drop k (record_of m ++ l)) z ∙ sym (drop-drop (i * 33) 33 (record_of m ++ l)) ∙ ap (drop (i * 33)) (drop_at (record_of m) l 33 record_long)

    k : get_or (record_of m ++ l) (suc i * 33 + 32) 0 ≡ get_or l (i * 33 + 32) 0
    k =
        let z : suc i * 33 + 32 ≡ length (record_of m) + (i * 33 + 32) = omega (arith, record_long) in
        ap (λ (j : ℕ). get_or (record_of m ++ l) j 0) z ∙ get_or-append-add (record_of m) l (i * 33 + 32) 0

    by : Dec (length l < i * 33 + 33) → name_at (record_of m ++ l) (suc i) ≡ name_at l i
    by (yes h) =
        let h' : length (record_of m ++ l) < suc i * 33 + 33 = omega (arith, both_long, h) in
        rw (lt-ltb _ _ h, lt-ltb _ _ h')
    by (no h) =
        let h' : suc i * 33 + 33 ≤ length (record_of m ++ l) = omega (arith, both_long, h) in
        let g : i * 33 + 33 ≤ length l = omega (arith, h) in
        rw (le-ltb _ _ g, le-ltb _ _ h', b, k)

-- Each name of the records is read as it was written, whatever is behind them.
pub records_read : {ms : List Name} → Whole ms → (rest : List ℕ) (i : ℕ) → i < length ms → name_at (records_of ms ++ rest) i ≡ get_or ms i misfit
unfolding records_of
records_read none rest i h = absurd (omega (arith, h))
records_read (more {m = m} {ms = ms} e W) rest zero h =
    ap (λ (x : List ℕ). name_at x 0) (append_assoc (record_of m) (records_of ms) rest) ∙ read_first m (records_of ms ++ rest) e
records_read (more {m = m} {ms = ms} e W) rest (suc i) h =
    ap (λ (x : List ℕ). name_at x (suc i)) (append_assoc (record_of m) (records_of ms) rest) ∙ read_later m (records_of ms ++ rest) e i ∙ records_read W rest i (omega (arith, h))

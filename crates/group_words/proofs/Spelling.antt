-- Laws of the words of a product.
use Prim.Native.Nat.{ℕ, ◌+◌, ◌*◌, ◌/◌, ◌%◌, ◌≤◌, ◌<◌}
use mathlib.Core.Path.{◌≡◌, refl, sym, ap, ◌∙◌}
use mathlib.Core.Bool.{Bool, true, false, ◌&&◌}
use mathlib.Core.List.{List, [], ◌∷◌}
use native.Mathlib.Nat.{add_assoc}
use native.Mathlib.Omega.{arith}
use borrow.Author.Tests.{lt-ltb, le-ltb, ltb-false}
use lib.ListN.{length, drop}
use lib.Dec.{ltb}
use Rattle.egg.specs.declared.Factor.{Factor}
use Rattle.egg.specs.declared.Refusal.{Refusal}
use Rattle.egg.specs.Answers.{Counted}
use Rattle.egg.specs.Refusals.{numbered}
use Rattle.std.specs.Prelude.{Ok, Err}
use Rattle.egg.specs.Table.{pick, length_of}
use Rattle.egg.specs.Factor.{stretch}
use Rattle.factor_word_letters.specs.Spell.{readable, spell_from}
use Rattle.factor_words.specs.Words.{length_in}
use Rattle.factor_words.proofs.Words.{never_both, same_count}
use Rattle.group_handles.specs.Counts.{on_counted}
use Rattle.group_words.specs.Words.{lengths, readables, spells, writes_by, writes, leaves}

pub length_small : (s : List ℕ) (n e : ℕ) {v : Counted} {k : ℕ} → v ≡ length_in s n e → v ≡ Ok k → k ≤ 4096
unfolding length_in
length_small s n e {v} {k} q h = by (ltb 4096 (length_of s n e)) refl (sym q ∙ h) where
  by : (b : Bool) → ltb 4096 (length_of s n e) ≡ b → pick (ltb 4096 (length_of s n e)) (Err (numbered 17 0 0 0)) (Ok (length_of s n e)) ≡ Ok k → k ≤ 4096
  by true p z = absurd (never_both refl (rw p at z))
  by false p z = let d : length_of s n e ≡ k = same_count (rw p at z) in omega (arith, ltb-false 4096 (length_of s n e) p, d)

-- Adding up lengths.
pub record Measuring (t : List ℕ) (hs : List Factor) (e f sum rest : ℕ) : Type 0 where
  pub small : sum ≤ 4096 * f
  pub same : on_counted (lengths t (drop f hs) rest) (λ m. Ok (sum + m)) ≡ lengths t hs e

none_first : (r : Counted) → on_counted r (λ m. Ok (0 + m)) ≡ r
none_first (Ok k) = ap Ok (omega arith)
none_first (Err r) = refl

pub measuring : (t : List ℕ) (hs : List Factor) (e : ℕ) → Measuring t hs e 0 0 e
measuring t hs e = record { small = omega arith; same = none_first (lengths t hs e) }

opened_lengths : (t : List ℕ) (h : Factor) (hs : List Factor) (e : ℕ) {r : Counted} → r ≡ length_in (stretch t h) h.generators (e % h.elements)
    → lengths t (h ∷ hs) e ≡ on_counted r (λ k. on_counted (lengths t hs (e / h.elements)) (λ m. Ok (k + m)))
unfolding lengths
opened_lengths t h hs e q = rw q

moved : (r : Counted) (a b : ℕ) → on_counted r (λ m. Ok (a + b + m)) ≡ on_counted (on_counted r (λ m. Ok (b + m))) (λ m. Ok (a + m))
moved (Ok m) a b = ap Ok (add_assoc a b m)
moved (Err r) a b = refl

module _ {t : List ℕ} {hs : List Factor} {e f sum rest : ℕ} {h : Factor} (w : Measuring t hs e f sum rest) (d : drop f hs ≡ h ∷ drop (f + 1) hs)
    {r : Counted} (q : r ≡ length_in (stretch t h) h.generators (rest % h.elements))
  where
    left_over : on_counted (on_counted r (λ k. on_counted (lengths t (drop (f + 1) hs) (rest / h.elements)) (λ m. Ok (k + m)))) (λ m. Ok (sum + m)) ≡ lengths t hs e
    left_over =
        ap (λ (v : Counted). on_counted v (λ m. Ok (sum + m))) (sym (opened_lengths t h (drop (f + 1) hs) rest q))
        ∙ ap (λ (l : List Factor). on_counted (lengths t l rest) (λ m. Ok (sum + m))) (sym d) ∙ w.same

    pub measures_stop : {why : Refusal} → r ≡ Err why → Err why ≡ lengths t hs e
    measures_stop p =
        ap (λ (v : Counted). on_counted (on_counted v (λ k. on_counted (lengths t (drop (f + 1) hs) (rest / h.elements)) (λ m. Ok (k + m)))) (λ m. Ok (sum + m))) (sym p)
        ∙ left_over

    pub measures_on : {k : ℕ} → r ≡ Ok k → Measuring t hs e (f + 1) (sum + k) (rest / h.elements)
    measures_on {k} p = record {
      small = omega (arith, w.small, length_small (stretch t h) h.generators (rest % h.elements) q p);
      same =
          moved (lengths t (drop (f + 1) hs) (rest / h.elements)) sum k
          ∙ ap (λ (v : Counted). on_counted (on_counted v (λ k. on_counted (lengths t (drop (f + 1) hs) (rest / h.elements)) (λ m. Ok (k + m)))) (λ m. Ok (sum + m))) (sym p)
          ∙ left_over;
    }

pub measures_end : {t : List ℕ} {hs : List Factor} {e f sum rest : ℕ} → Measuring t hs e f sum rest → drop f hs ≡ [] → Ok sum ≡ lengths t hs e
unfolding lengths
measures_end {t} {hs} {e} {f} {sum} {rest} w d =
    let z : sum ≡ sum + 0 = omega arith in
    ap Ok z ∙ ap (λ (l : List Factor). on_counted (lengths t l rest) (λ m. Ok (sum + m))) (sym d) ∙ w.same

-- Looking at every letter.
pub record Looking (t : List ℕ) (hs : List Factor) (e f rest : ℕ) : Type 0 where
  pub same : readables t (drop f hs) rest ≡ readables t hs e

pub looking : (t : List ℕ) (hs : List Factor) (e : ℕ) → Looking t hs e 0 e
looking t hs e = record { same = refl }

module _ {t : List ℕ} {hs : List Factor} {e f rest : ℕ} {h : Factor} (w : Looking t hs e f rest) (d : drop f hs ≡ h ∷ drop (f + 1) hs)
    {s : List ℕ} (q : s ≡ stretch t h) {x : ℕ} (k : x ≡ rest % h.elements) {len : ℕ} (l : len ≡ length_of s h.generators x)
    {b : Bool} (p : b ≡ readable len s h.generators h.elements x)
  where
    looked : b && readables t (drop (f + 1) hs) (rest / h.elements) ≡ readables t hs e
    unfolding readables
    looked = rw (p, l, k, q) (ap (λ (z : List Factor). readables t z rest) (sym d) ∙ w.same)

    pub looks_stop : b ≡ false → false ≡ readables t hs e
    looks_stop z = ap (λ (c : Bool). c && readables t (drop (f + 1) hs) (rest / h.elements)) (sym z) ∙ looked

    pub looks_on : b ≡ true → Looking t hs e (f + 1) (rest / h.elements)
    looks_on z = record { same = ap (λ (c : Bool). c && readables t (drop (f + 1) hs) (rest / h.elements)) (sym z) ∙ looked }

pub looks_end : {t : List ℕ} {hs : List Factor} {e f rest : ℕ} → Looking t hs e f rest → drop f hs ≡ [] → true ≡ readables t hs e
unfolding readables
looks_end {t} {hs} {e} {f} {rest} w d = ap (λ (z : List Factor). readables t z rest) (sym d) ∙ w.same

-- One digit's word after the other.
pub record Spelling (t : List ℕ) (hs : List Factor) (e : ℕ) (out₀ out : List ℕ) (f rest start offset : ℕ) : Type 0 where
  pub kept : length out ≡ length out₀
  pub starts : start ≤ 4294967296 * f
  pub offsets : offset ≤ 255 * f
  pub same : spells t (drop f hs) rest start offset out ≡ spells t hs e 0 0 out₀

pub spelling : (t : List ℕ) (hs : List Factor) (e : ℕ) (out : List ℕ) → Spelling t hs e out out 0 e 0 0
spelling t hs e out = record { kept = refl; starts = omega arith; offsets = omega arith; same = refl }

module _ {t : List ℕ} {hs : List Factor} {e : ℕ} {out₀ out : List ℕ} {f rest start offset : ℕ} {h : Factor} (w : Spelling t hs e out₀ out f rest start offset)
    (d : drop f hs ≡ h ∷ drop (f + 1) hs)
    {s : List ℕ} (q : s ≡ stretch t h) {x : ℕ} (k : x ≡ rest % h.elements) {len : ℕ} (l : len ≡ length_of s h.generators x)
    {o : List ℕ} (p : o ≡ spell_from len s h.generators x start offset out)
  where
    pub spells_on : len < 4294967296 → h.generators < 256 → length o ≡ length out → Spelling t hs e out₀ o (f + 1) (rest / h.elements) (start + len) (offset + h.generators)
    unfolding spells
    spells_on small few long = record {
      kept = long ∙ w.kept;
      starts = omega (arith, w.starts);
      offsets = omega (arith, w.offsets);
      same = rw (p, l, k, q) (ap (λ (z : List Factor). spells t z rest start offset out) (sym d) ∙ w.same);
    }

pub spells_end : {t : List ℕ} {hs : List Factor} {e : ℕ} {out₀ out : List ℕ} {f rest start offset : ℕ} → Spelling t hs e out₀ out f rest start offset → drop f hs ≡ []
    → out ≡ spells t hs e 0 0 out₀
unfolding spells
spells_end {t} {hs} {e} {out₀} {out} {f} {rest} {start} {offset} w d = ap (λ (z : List Factor). spells t z rest start offset out) (sym d) ∙ w.same

-- One law for each answer of the writer.
module _ (t : List ℕ) (hs : List Factor) (e size : ℕ) {v : Counted} (q : v ≡ lengths t hs e) where
  pub writes_none : {r : Refusal} → v ≡ Err r → writes t hs e size ≡ v
  unfolding writes
  writes_none h = rw (← q, h)

  module _ {k : ℕ} (h : v ≡ Ok k) where
    pub writes_short : size < k → writes t hs e size ≡ Err (numbered 4 0 0 0)
    unfolding writes
    writes_short l = rw (← q, h) (simp (lt-ltb _ _ l))

    module _ (l : k ≤ size) {b : Bool} (p : b ≡ readables t hs e) where
      pub writes_unread : b ≡ false → writes t hs e size ≡ Err (numbered 17 0 0 0)
      unfolding writes
      writes_unread z = rw (← q, h, ← p, z) (simp (le-ltb _ _ l))

      pub writes_count : b ≡ true → writes t hs e size ≡ Ok k
      unfolding writes
      writes_count z = rw (← q, h, ← p, z) (simp (le-ltb _ _ l))

-- The answer and what the buffer holds, both by the answer.
pub wrote : (t : List ℕ) (hs : List Factor) (e : ℕ) (out : List ℕ) {w r x : Counted} {o : List ℕ} → w ≡ r → x ≡ r → o ≡ leaves r t hs e out
    → (x ≡ w) × (o ≡ leaves w t hs e out)
wrote t hs e out q p h = rw q (p, h)

-- A word that was written had room.
pub by_fits : (v : Counted) (b : Bool) (size : ℕ) {k : ℕ} → writes_by v b size ≡ Ok k → k ≤ size
by_fits (Err r) b size h = absurd (never_both refl h)
by_fits (Ok m) b size {k} h = by (ltb size m) b refl h where
  by : (c d : Bool) → ltb size m ≡ c → writes_by (Ok m) d size ≡ Ok k → k ≤ size
  by true d p z = absurd (never_both refl (rw p at z))
  by false false p z = absurd (never_both refl (rw p at z))
  by false true p z = let q : m ≡ k = same_count (rw p at z) in omega (arith, ltb-false size m p, q)

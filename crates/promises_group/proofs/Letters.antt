-- The word that is written is the product's.
use Prim.Native.Nat.{ℕ, zero, suc, ◌+◌, ◌*◌, ◌/◌, ◌%◌, ◌≤◌, ◌<◌}
use mathlib.Core.Path.{◌≡◌, refl, sym, ap, ◌∙◌}
use mathlib.Core.Bool.{true}
use mathlib.Core.List.{List, [], ◌∷◌, ◌++◌, append_assoc}
use native.Mathlib.Nat.{zero-add}
use native.Mathlib.Omega.{arith}
use borrow.Author.Tests.{le-ltb}
use lib.ListN.{length, drop, set, length-append, length-drop}
use lib.Seq.{drop-drop}
use Rattle.egg.specs.declared.Factor.{Factor}
use Rattle.std.specs.Prelude.{Ok}
use Rattle.egg.specs.Table.{hop_of, length_of}
use Rattle.egg.specs.Factor.{stretch}
use Rattle.egg.proofs.Rooms.{has, few}
use Rattle.factor_laws.specs.Accepted.{factor_word}
use Rattle.factor_words.specs.Words.{spell_by, spell_from}
use Rattle.factor_laws.proofs.Handles.{few_elements}
use Rattle.factor_laws.proofs.Steps.{word_readable}
use Rattle.factor_laws.proofs.Letters.{length_in_lem, spelled}
use Rattle.theory_products.specs.Product.{product, shift}
use Rattle.theory_radix.proofs.RadixLaws.{low_small, high_small}
use Rattle.theory_products.proofs.WordLaws.{shift_length, shift_shift, shift_append, shift_zero}
use Rattle.group_handles.specs.Handles.{generators_of}
use Rattle.group_words.specs.Words.{lengths, readables, spells, writes}
use Rattle.promises_group.specs.Products.{parts, AllAccepted, none, more}

-- A word is written behind what stands there, whatever that is.
set_behind : (xs ys : List ℕ) (k v : ℕ) → set (xs ++ ys) (length xs + k) v ≡ xs ++ set ys k v
set_behind [] ys k v = let z : 0 + k ≡ k = omega arith in rw z
set_behind (x ∷ xs) ys k v =
    let z : suc (length xs) + k ≡ suc (length xs + k) = omega arith in
    rw z (ap (λ (l : List ℕ). x ∷ l) (set_behind xs ys k v))

module _ (s : List ℕ) (n o : ℕ) (xs : List ℕ) where
  behind : (k j c : ℕ) (ys : List ℕ) → spell_by k j s n c (length xs) o (xs ++ ys) ≡ xs ++ spell_by k j s n c 0 o ys
  unfolding spell_by
  behind zero j c ys = refl
  behind (suc k) zero c ys = rw (zero-add k, set_behind xs ys k ((o + hop_of s n c % 8) % 256)) (behind k 4 (hop_of s n c / 8) (set ys k ((o + hop_of s n c % 8) % 256)))
  behind (suc k) (suc j) c ys = rw (zero-add k, set_behind xs ys k ((o + c % 8) % 256)) (behind k j (c / 8) (set ys k ((o + c % 8) % 256)))

module _ (t : List ℕ) where
  pub lengths_are : {hs : List Factor} → AllAccepted t hs → (e : ℕ) → e < (product (parts t hs)).elements → lengths t hs e ≡ Ok (length ((product (parts t hs)).word e))
  unfolding lengths
  lengths_are none e he = refl
  lengths_are (more {h} {hs} A As) e he =
      let N : ℕ = h.elements in
      let M : ℕ = (product (parts t hs)).elements in
      rw (length_in_lem A.sound (low_small N M e he), lengths_are As (e / N) (high_small N M e he))
      (ap Ok (sym (length-append (factor_word t h (e % N)) (shift h.generators ((product (parts t hs)).word (e / N)))
      ∙ ap (λ (k : ℕ). length (factor_word t h (e % N)) + k) (shift_length h.generators ((product (parts t hs)).word (e / N))))))

  pub readables_are : {hs : List Factor} → AllAccepted t hs → (e : ℕ) → e < (product (parts t hs)).elements → readables t hs e ≡ true
  unfolding readables
  readables_are none e he = refl
  readables_are (more {h} {hs} A As) e he =
      let N : ℕ = h.elements in
      let M : ℕ = (product (parts t hs)).elements in
      let l = low_small N M e he in
      rw (word_readable A.sound A.ruled A.hops (few_elements A) (length_of (stretch t h) h.generators (e % N)) l (A.sound.stored.lengths l), readables_are As (e / N) (high_small N M e he))

  spells_are : {hs : List Factor} → AllAccepted t hs → (e o : ℕ) (xs ys : List ℕ) → e < (product (parts t hs)).elements → o + generators_of hs ≤ 256
      → length ((product (parts t hs)).word e) ≤ length ys
      → spells t hs e (length xs) o (xs ++ ys) ≡ xs ++ (shift o ((product (parts t hs)).word e) ++ drop (length ((product (parts t hs)).word e)) ys)
  unfolding spells
  spells_are none e o xs ys he small room = refl
  spells_are (more {h} {hs} A As) e o xs ys he small room =
      let N : ℕ = h.elements in
      let M : ℕ = (product (parts t hs)).elements in
      let l = low_small N M e he in
      let k : ℕ = length_of (stretch t h) h.generators (e % N) in
      let u : List ℕ = factor_word t h (e % N) in
      let v : List ℕ = (product (parts t hs)).word (e / N) in
      let q : k ≡ length u = A.sound.stored.lengths l in
      let all : length (u ++ shift h.generators v) ≡ length u + length v =
      length-append u (shift h.generators v) ∙ ap (λ (n : ℕ). length u + n) (shift_length h.generators v) in
      let fit : k ≤ length ys = omega (arith, q, all, room) in
      let rest : length v ≤ length (drop k ys) = omega (arith, q, all, room, length-drop k ys) in
      let first : spell_from k (stretch t h) h.generators (e % N) (length xs) o (xs ++ ys) ≡ (xs ++ shift o u) ++ drop k ys =
      behind (stretch t h) h.generators o xs k 0 (e % N) ys
      ∙ ap (λ (z : List ℕ). xs ++ z) (spelled A.sound A.hops (few_elements A) o (omega arith) k ys l q fit) ∙ sym (append_assoc xs (shift o u) (drop k ys)) in
      let at : length xs + k ≡ length (xs ++ shift o u) = sym (length-append xs (shift o u) ∙ ap (λ (n : ℕ). length xs + n) (shift_length o u ∙ sym q)) in
      ap (λ (z : List ℕ). spells t hs (e / N) (length xs + k) (o + h.generators) z) first
      ∙ ap (λ (z : ℕ). spells t hs (e / N) z (o + h.generators) ((xs ++ shift o u) ++ drop k ys)) at
      ∙ spells_are As (e / N) (o + h.generators) (xs ++ shift o u) (drop k ys) (high_small N M e he) (omega arith) rest
      ∙ append_assoc xs (shift o u) (shift (o + h.generators) v ++ drop (length v) (drop k ys))
      ∙ ap (λ (z : List ℕ). xs ++ z)
      (sym (append_assoc (shift o u) (shift (o + h.generators) v) (drop (length v) (drop k ys)))
      ∙ ap (λ (z : List ℕ). z ++ drop (length v) (drop k ys)) (sym (shift_append o u (shift h.generators v) ∙ ap (λ (z : List ℕ). shift o u ++ z) (shift_shift o h.generators v)))
      ∙ ap (λ (z : List ℕ). shift o (u ++ shift h.generators v) ++ z)
      (drop-drop (length v) k ys ∙ ap (λ (n : ℕ). drop n ys) (ap (λ (n : ℕ). n + length v) q ∙ sym all)))

  few_generators : {hs : List Factor} → AllAccepted t hs → generators_of hs ≤ 8 * length hs
  few_generators none = omega arith
  few_generators (more {h} {hs} A As) =
      let k : h.generators ≤ 8 = few (length t) h.start h.room h.generators (has (length t) h A.fits) in
      omega (arith, few_generators As)

  module _ {hs : List Factor} (As : AllAccepted t hs) (short : length hs ≤ 8) {e : ℕ} (he : e < (product (parts t hs)).elements) where
    pub writes_are : (size : ℕ) → length ((product (parts t hs)).word e) ≤ size → writes t hs e size ≡ Ok (length ((product (parts t hs)).word e))
    unfolding writes
    writes_are size room = rw (lengths_are As e he, readables_are As e he) (simp (le-ltb _ _ room))

    pub leaves_are : (out : List ℕ) → length ((product (parts t hs)).word e) ≤ length out
        → spells t hs e 0 0 out ≡ (product (parts t hs)).word e ++ drop (length ((product (parts t hs)).word e)) out
    leaves_are out room =
        spells_are As e 0 [] out he (omega (arith, few_generators As)) room
        ∙ ap (λ (w : List ℕ). w ++ drop (length ((product (parts t hs)).word e)) out) (shift_zero ((product (parts t hs)).word e))

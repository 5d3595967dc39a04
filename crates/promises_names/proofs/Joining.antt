-- How a name is kept, what the joined name is, and which names a product has.
use Prim.Native.Nat.{ℕ, zero, suc, ◌+◌, ◌-◌, ◌≤◌}
use mathlib.Core.Path.{◌≡◌, refl, ap, ◌∙◌}
use mathlib.Core.List.{List, [], ◌∷◌, ◌++◌, map, append-nil}
use native.Mathlib.Numerals.{add-one}
use native.Mathlib.Omega.{arith}
use lib.ListN.{length, get_or, replicate, length-append, length-replicate}
use lib.Seq.{take-append_seam, get_or-append-add}
use Rattle.names_values.specs.declared.Name.{Name}
use Rattle.names_values.specs.Names.{name_of, bytes_of}
use Rattle.names_joined.specs.Joined.{between, gap_at, joined_from, joined_name}
use Rattle.promises_names.specs.Joining.{NameKept, bytes_joined}

-- A list that is filled up to k places has k.
pub filled : {A : Type 0} (k : ℕ) (x : A) (l : List A) → length l ≤ k → length (l ++ replicate (k - length l) x) ≡ k
filled {A} k x l h =
    let e : length l + (k - length l) ≡ k = omega arith in
    length-append l (replicate (k - length l) x) ∙ ap (λ (i : ℕ). length l + i) (length-replicate (k - length l) x) ∙ e

zero_cell : (n i : ℕ) → ◌≡◌ {A = ℕ} (get_or (replicate n 0) i 0) 0
zero_cell zero i = refl
zero_cell (suc n) zero = refl
zero_cell (suc n) (suc i) = zero_cell n i

had_back : (b : List ℕ) → bytes_of (name_of b) ≡ b
had_back b = take-append_seam b (replicate (32 - length b) 0)

-- "The record of a factor gains a name of 0 to 32 bytes, held by value."
pub name_kept : (b : List ℕ) → length b ≤ 32 → NameKept b (name_of b)
name_kept b h = record {
  had_back = had_back b;
  counted = refl;
  by_value = filled {A = ℕ} 32 0 b h;
  zeros = λ {i} l.
      let e : i ≡ length b + (i - length b) = omega arith in
      ap (λ (k : ℕ). get_or (name_of b).bytes k 0) e ∙ get_or-append-add b (replicate (32 - length b) 0) (i - length b) 0 ∙ zero_cell (32 - length b) (i - length b);
}

-- A name, and the others from a place behind the first on.
named_on : (f : ℕ) (m : Name) (ms : List Name) → bytes_of m ++ joined_from (f + 1) ms ≡ bytes_joined (bytes_of m ∷ map bytes_of ms)
unfolding joined_from bytes_joined
named_on f m [] = append-nil (bytes_of m)
named_on f m (c ∷ ms) =
    ap (λ (l : List ℕ). bytes_of m ++ l)
    (ap (λ (k : ℕ). gap_at k ++ (bytes_of c ++ joined_from (f + 1 + 1) ms)) (add-one f) ∙ ap (λ (l : List ℕ). between ++ l) (named_on (f + 1) c ms))

-- The joined name is the bytes of the names, in their order, with " x " between each two.
pub joined_plain : (ms : List Name) → joined_name ms ≡ bytes_joined (map bytes_of ms)
unfolding joined_from bytes_joined
joined_plain [] = refl
joined_plain (m ∷ ms) = named_on 0 m ms

all_had_back : (bs : List (List ℕ)) → map bytes_of (map name_of bs) ≡ bs
all_had_back [] = refl
all_had_back (b ∷ bs) = rw (had_back b, all_had_back bs)

-- So it is of names that were made from lists of bytes, with these bytes.
pub joined_bytes : (bs : List (List ℕ)) → joined_name (map name_of bs) ≡ bytes_joined bs
joined_bytes bs = joined_plain (map name_of bs) ∙ ap bytes_joined (all_had_back bs)

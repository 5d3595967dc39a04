-- Laws of strides, of splitting into a lent list, and of joining.
use Prim.Native.Nat.{ℕ, zero, suc, ◌+◌, ◌*◌, ◌/◌, ◌%◌, ◌≤◌, ◌<◌}
use mathlib.Core.Path.{◌≡◌, refl, sym, ap, ◌∙◌}
use mathlib.Core.Bool.{Bool, true, false}
use mathlib.Core.List.{List, [], ◌∷◌, ◌++◌}
use native.Mathlib.Nat.{mul_assoc, mul-add, add_assoc, mul-zero, mul-pos, mul-le-mul_left, mod-le, div-le_self, zero-div}
use native.Mathlib.Omega.{arith}
use borrow.Author.Tests.{lt-ltb, le-ltb, le-leb, lt-leb, ltb-true}
use lib.ListN.{length, get_or, drop}
use lib.Dec.{ltb}
use lib.Seq.{drop-cons, set-append_seam}
use Rattle.egg.specs.declared.Factor.{Factor}
use Rattle.egg.specs.Answers.{Counted, fine}
use Rattle.egg.specs.Refusals.{numbered}
use Rattle.std.specs.Prelude.{Ok, Err}
use Rattle.egg.specs.Table.{put_at}
use Rattle.egg.specs.Scan.{refused_of}
use Rattle.egg.specs.Factor.{refused_reach}
use Rattle.egg.proofs.Scans.{scan_fine, Scanning, scanning}
use Rattle.build_lending.specs.Lending.{no_factor}
use Rattle.theory_radix.specs.Radix.{stride, split, join}
use Rattle.theory_radix.proofs.RadixLaws.{stride_next, stride_small, range_pos, high_small}
use Rattle.group_handles.specs.declared.Group.{Group}
use Rattle.group_handles.specs.Handles.{handles, sizes, elements_of, limited}
use Rattle.group_digits.specs.Splits.{split_tail, digits_left, digit_right, digits_right, fewer, join_tail}
use Rattle.group_handles.proofs.Lists.{sizes_at, sizes_length, handle_at_lem}
use Rattle.group_digits.proofs.Walks.{Walk, walk, walk_on}

-- Where the product has an element, no factor has none.
module _ (x : Factor) (hs : List Factor) (p : 0 < elements_of (x ∷ hs)) where
  first_pos : 0 < x.elements
  first_pos = range_pos x.elements (elements_of hs) 0 p

  rest_pos : 0 < elements_of hs
  rest_pos = rw zero-div at (high_small x.elements (elements_of hs) 0 p)

pub stride_pos : (hs : List Factor) (f : ℕ) → 0 < elements_of hs → 0 < stride (sizes hs) f
stride_pos [] zero p = omega arith
stride_pos [] (suc f) p = omega arith
stride_pos (x ∷ hs) zero p = omega arith
stride_pos (x ∷ hs) (suc f) p = mul-pos (first_pos x hs p) (stride_pos hs f (rest_pos x hs p))

pub size_pos : (hs : List Factor) (f : ℕ) → 0 < elements_of hs → 0 < get_or (sizes hs) f 1
size_pos [] f p = omega arith
size_pos (x ∷ hs) zero p = first_pos x hs p
size_pos (x ∷ hs) (suc f) p = size_pos hs f (rest_pos x hs p)

-- The factor of a turn has an element.
pub some_at : (g : Group) (f : ℕ) {k : ℕ} → k ≡ length (handles g) → f < k → 0 < elements_of (handles g) → 0 < (get_or g.factors f no_factor).elements
some_at g f q l p =
    let d : f < length (handles g) = rw (← q) l in
    rw (handle_at_lem g f q l, sizes_at (handles g) f d) (size_pos (handles g) f p)

module _ (hs : List Factor) (i : ℕ) {h : Factor} {s : ℕ} (q : h ≡ get_or hs i no_factor) (l : i < length hs) (p : s ≡ stride (sizes hs) i) where
  pub stride_on : s * h.elements ≡ stride (sizes hs) (i + 1)
  stride_on =
      let z : i + 1 ≡ suc i = omega arith in
      rw (z, q, sizes_at hs i l, p) (sym (stride_next (sizes hs) i))

  pub stride_bound : 0 < elements_of hs → s * h.elements ≤ elements_of hs
  stride_bound a = rw stride_on (stride_small (sizes hs) (i + 1) a)

pub inject_bound : (hs : List Factor) (f x : ℕ) {s : ℕ} → 0 < elements_of hs → s ≡ stride (sizes hs) f → x < get_or (sizes hs) f 1 → s * x ≤ elements_of hs
inject_bound hs f x {s} a p h =
    let b : stride (sizes hs) f * get_or (sizes hs) f 1 ≤ elements_of hs = rw (← stride_next (sizes hs) f) (stride_small (sizes hs) (suc f) a) in
    let c : s * get_or (sizes hs) f 1 ≤ elements_of hs = rw p b in
    omega (arith, c, mul-le-mul_left s h)

-- Splitting into a list, one digit after the other.
abbrev pub split_into : List Factor → ℕ → ℕ → List ℕ → List ℕ
split_into [] f e out = out
split_into (h ∷ hs) f e out = split_into hs (f + 1) (e / h.elements) (put_at out f (e % h.elements))

append_assoc : (a b c : List ℕ) → (a ++ b) ++ c ≡ a ++ (b ++ c)
append_assoc [] b c = refl
append_assoc (x ∷ a) b c = ap (λ (l : List ℕ). x ∷ l) (append_assoc a b c)

length_snoc : (a : List ℕ) (x : ℕ) → length (a ++ x ∷ []) ≡ length a + 1
length_snoc [] x = refl
length_snoc (y ∷ a) x = omega (arith, length_snoc a x)

put_seam : (xs : List ℕ) (y : ℕ) (ys : List ℕ) (v : ℕ) → v < 4294967296 → put_at (xs ++ y ∷ ys) (length xs) v ≡ (xs ++ v ∷ []) ++ ys
unfolding put_at
put_seam xs y ys v h = rw (lt-ltb v 4294967296 h) (set-append_seam xs y ys v ∙ sym (append_assoc xs (v ∷ []) ys))

split_from : (hs : List Factor) (e : ℕ) (xs ys : List ℕ) → e < 4294967296 → length hs ≤ length ys
    → split_into hs (length xs) e (xs ++ ys) ≡ xs ++ (split (sizes hs) e ++ drop (length hs) ys)
split_from [] e xs ys h k = refl
split_from (x ∷ hs) e xs [] h k = absurd (omega arith)
split_from (x ∷ hs) e xs (y ∷ ys) h k =
    let v : ℕ = e % x.elements in
    let small : v < 4294967296 = omega (arith, mod-le e x.elements) in
    let less : e / x.elements < 4294967296 = omega (arith, div-le_self e x.elements) in
    let next : split_into hs (length (xs ++ v ∷ [])) (e / x.elements) ((xs ++ v ∷ []) ++ ys) ≡ (xs ++ v ∷ []) ++ (split (sizes hs) (e / x.elements) ++ drop (length hs) ys) =
    split_from hs (e / x.elements) (xs ++ v ∷ []) ys less (omega arith) in
    ap (λ (l : List ℕ). split_into hs (length xs + 1) (e / x.elements) l) (put_seam xs y ys v small)
    ∙ ap (λ (i : ℕ). split_into hs i (e / x.elements) ((xs ++ v ∷ []) ++ ys)) (sym (length_snoc xs v))
    ∙ next ∙ append_assoc xs (v ∷ []) (split (sizes hs) (e / x.elements) ++ drop (length hs) ys)

pub record Splitting (hs : List Factor) (e : ℕ) (out₀ out : List ℕ) (f rest : ℕ) : Type 0 where
  pub kept : length out ≡ length out₀
  pub same : split_into (drop f hs) f rest out ≡ split_into hs 0 e out₀

pub splitting : (hs : List Factor) (e : ℕ) (out : List ℕ) → Splitting hs e out out 0 e
splitting hs e out = record { kept = refl; same = refl }

pub splits_on : {hs : List Factor} {e : ℕ} {out₀ out : List ℕ} {f rest : ℕ} {h : Factor} → Splitting hs e out₀ out f rest → drop f hs ≡ h ∷ drop (f + 1) hs
    → {l : List ℕ} → length l ≡ length out → l ≡ put_at out f (rest % h.elements) → Splitting hs e out₀ l (f + 1) (rest / h.elements)
splits_on {hs} {e} {out₀} {out} {f} {rest} {h} w d {l} k q = record {
  kept = k ∙ w.kept;
  same = rw q (ap (λ (z : List Factor). split_into z f rest out) (sym d) ∙ w.same);
}

-- The answer and the list, where it is long enough and where it is short.
module _ (hs : List Factor) (e : ℕ) {c : ℕ} (p : c ≡ length hs) where
  pub split_short : (out : List ℕ) {v : Counted} → length out < c → v ≡ Err (numbered 4 0 0 0)
      → (v ≡ split_tail hs (length out)) × (out ≡ digits_left (split_tail hs (length out)) (sizes hs) e out)
  unfolding split_tail
  split_short out {v} h q =
      let k : length out < length hs = rw (← p) h in
      rw (lt-ltb (length out) (length hs) k) (q, refl)

  pub split_long : {out₀ out : List ℕ} {f rest : ℕ} → e < 4294967296 → c ≤ length out₀ → Splitting hs e out₀ out f rest → drop f hs ≡ []
      → (Ok c ≡ split_tail hs (length out₀)) × (out ≡ digits_left (split_tail hs (length out₀)) (sizes hs) e out₀)
  unfolding split_tail
  split_long {out₀} {out} {f} {rest} small h w d =
      let k : length hs ≤ length out₀ = rw (← p) h in
      let z : out ≡ split (sizes hs) e ++ drop (length hs) out₀ =
      ap (λ (l : List Factor). split_into l f rest out) (sym d) ∙ w.same ∙ split_from hs e [] out₀ small k in
      rw (le-ltb (length out₀) (length hs) k) (ap Ok p, z)

-- The range of each digit.
module _ (Ns ds : List ℕ) (f : ℕ) {n d : ℕ} (p : n ≡ get_or Ns f 1) (q : d ≡ get_or ds f 0) where
  pub digit_bad : n ≤ d → digit_right Ns ds f ≡ refused_of 14 f 0 0
  digit_bad h = rw (← p, ← q) (simp (le-ltb _ _ h))

  pub digit_good : d < n → digit_right Ns ds f ≡ fine
  digit_good h = rw (← p, ← q) (simp (lt-ltb _ _ h))

fine_good : (Ns ds : List ℕ) (f : ℕ) → digit_right Ns ds f ≡ fine → get_or ds f 0 < get_or Ns f 1
fine_good Ns ds f e = by (ltb (get_or ds f 0) (get_or Ns f 1)) refl where
  by : (b : Bool) → ltb (get_or ds f 0) (get_or Ns f 1) ≡ b → get_or ds f 0 < get_or Ns f 1
  by true h = ltb-true _ _ h
  by false h =
      let z : digit_right Ns ds f ≡ refused_of 14 f 0 0 = rw h in
      let y : ◌≡◌ {A = ℕ} 0 1 = cc in
      absurd (omega arith)

pub digits_good : (hs : List Factor) (ds : List ℕ) (f : ℕ) → digits_right (sizes hs) ds ≡ fine → length hs ≤ length ds → f < length hs
    → get_or ds f 0 < (get_or hs f no_factor).elements
unfolding digits_right
digits_good hs ds f e k h =
    let c : fewer (length (sizes hs)) (length ds) ≡ length hs = rw (sizes_length hs) (simp (le-leb _ _ k)) in
    let l : f < fewer (length (sizes hs)) (length ds) = rw c h in
    rw (sizes_at hs f h) (fine_good (sizes hs) ds f ((scan_fine (fewer (length (sizes hs)) (length ds)) (digit_right (sizes hs) ds)).0 e f l))

pub fewer_first : {a b : ℕ} → a ≤ b → a ≡ fewer a b
fewer_first h = simp (le-leb _ _ h)

pub fewer_second : {a b : ℕ} → b < a → b ≡ fewer a b
fewer_second h = simp (lt-leb _ _ h)

-- Joining.
pub record Joining (hs : List Factor) (ds : List ℕ) (f s sum : ℕ) : Type 0 where
  pub walks : Walk hs f s sum
  pub same : sum + s * join (sizes (drop f hs)) (drop f ds) ≡ join (sizes hs) ds

pub joining : (hs : List Factor) (ds : List ℕ) → Joining hs ds 0 1 0
joining hs ds = record { walks = walk hs; same = omega arith }

module _ {hs : List Factor} {ds : List ℕ} {f s sum : ℕ} {h : Factor} {d : ℕ} (w : Joining hs ds f s sum) (k : drop f hs ≡ h ∷ drop (f + 1) hs)
    (l : f < length ds) (q : d ≡ get_or ds f 0) (b : d < h.elements)
  where
    moved : (J : ℕ) → sum + s * d + s * h.elements * J ≡ sum + s * (d + h.elements * J)
    moved J = rw (mul-add s d (h.elements * J), ← mul_assoc s h.elements J, add_assoc)

    pub joins_on : Joining hs ds (f + 1) (s * h.elements) (sum + s * d)
    joins_on = record {
      walks = walk_on w.walks k b;
      same =
          let z : suc f ≡ f + 1 = omega arith in
          let y : drop f ds ≡ d ∷ drop (f + 1) ds = drop-cons ds f 0 l ∙ rw (q, z) in
          moved (join (sizes (drop (f + 1) hs)) (drop (f + 1) ds))
          ∙ ap (λ (m : List ℕ). sum + s * join (sizes (h ∷ drop (f + 1) hs)) m) (sym y)
          ∙ ap (λ (m : List Factor). sum + s * join (sizes m) (drop f ds)) (sym k) ∙ w.same;
    }

module _ (g : Group) (ds : List ℕ) where
  pub join_large : limited g ≡ false → refused_reach 15 0 ≡ join_tail g ds
  unfolding join_tail
  join_large e = rw e

  module _ (e : limited g ≡ true) {c : ℕ} (p : c ≡ length (handles g)) where
    pub join_short : length ds < c → refused_reach 4 0 ≡ join_tail g ds
    unfolding join_tail
    join_short h =
        let k : length ds < length (handles g) = rw (← p) h in
        rw e (simp (lt-ltb _ _ k))

    pub join_end : {f s sum : ℕ} → c ≤ length ds → Joining (handles g) ds f s sum → drop f (handles g) ≡ [] → Ok (record { 0 = sum }) ≡ join_tail g ds
    unfolding join_tail
    join_end {f} {s} {sum} h w d =
        let k : length (handles g) ≤ length ds = rw (← p) h in
        let z : sum ≡ sum + s * 0 = omega (arith, mul-zero s) in
        let y : sum ≡ join (sizes (handles g)) ds = z ∙ ap (λ (m : List Factor). sum + s * join (sizes m) (drop f ds)) (sym d) ∙ w.same in
        rw e (simp (le-ltb _ _ k) (ap (λ (x : ℕ). Ok (record { 0 = x })) y))

-- The answer and what the list holds, both by the answer.
pub left_by_lem : (Ns : List ℕ) (e : ℕ) (out : List ℕ) {w r x : Counted} {o : List ℕ} → w ≡ r → x ≡ r → o ≡ digits_left r Ns e out → (x ≡ w) × (o ≡ digits_left w Ns e out)
left_by_lem Ns e out q p h = rw q (p, h)

pub digits_begin : (hs : List Factor) (ds : List ℕ) {k c : ℕ} → k ≡ length hs → c ≡ fewer k (length ds) → Scanning c (digit_right (sizes hs) ds) 0 (digits_right (sizes hs) ds)
unfolding digits_right
digits_begin hs ds {k} {c} p q =
    let z : c ≡ fewer (length (sizes hs)) (length ds) = q ∙ ap (λ (l : ℕ). fewer l (length ds)) (p ∙ sym (sizes_length hs)) in
    rw z scanning

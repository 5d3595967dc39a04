-- A bit that is turned over some times: what is done twice is undone.
use mathlib.Core.Path.{◌≡◌, refl, sym, ap, ◌∙◌}
use mathlib.Core.Bool.{Bool, true, false, not}
use Prim.Native.Nat.{ℕ, zero, suc, ◌+◌, ◌<◌}
use native.Mathlib.Nat.{zero-add, suc-add}
use native.Mathlib.Omega.{arith}

-- Whether a question was answered by yes.
abbrev pub mark : {X : Type 0} → Dec X → Bool
mark (yes x) = true
mark (no x) = false

pub mark_same : {X Y : Type 0} (d : Dec X) (e : Dec Y) → (X → Y) → (Y → X) → mark d ≡ mark e
mark_same (yes x) (yes y) f g = refl
mark_same (yes x) (no y) f g = absurd (y (f x))
mark_same (no x) (yes y) f g = absurd (x (g y))
mark_same (no x) (no y) f g = refl

pub mark_yes : {X : Type 0} (d : Dec X) → X → mark d ≡ true
mark_yes (yes x) h = refl
mark_yes (no x) h = absurd (x h)

pub mark_no : {X : Type 0} (d : Dec X) → ¬ X → mark d ≡ false
mark_no (yes x) h = absurd (h x)
mark_no (no x) h = refl

-- The second bit, turned over if the first is set.
abbrev pub toggle : Bool → Bool → Bool
toggle true b = not b
toggle false b = b

pub toggle_twice : (a b : Bool) → toggle a (toggle a b) ≡ b
toggle_twice true true = refl
toggle_twice true false = refl
toggle_twice false b = refl

pub toggle_self : (b : Bool) → toggle b b ≡ false
toggle_self true = refl
toggle_self false = refl

toggle_swap : (a c b : Bool) → toggle a (toggle c b) ≡ toggle c (toggle a b)
toggle_swap true true b = refl
toggle_swap true false b = refl
toggle_swap false true b = refl
toggle_swap false false b = refl

-- Turned over by each of c 0 .. c (k-1).
abbrev pub flips : ℕ → (ℕ → Bool) → Bool → Bool
flips zero c b = b
flips (suc k) c b = flips k (λ l. c (suc l)) (toggle (c 0) b)

pub flips_agree : (k : ℕ) (c d : ℕ → Bool) (b : Bool) → ((l : ℕ) → l < k → c l ≡ d l) → flips k c b ≡ flips k d b
flips_agree zero c d b same = refl
flips_agree (suc k) c d b same =
    ap (λ x. flips k (λ l. c (suc l)) (toggle x b)) (same 0 (omega arith)) ∙ flips_agree k (λ l. c (suc l)) (λ l. d (suc l)) (toggle (d 0) b) (λ l h. same (suc l) (omega arith))

pub flips_none : (k : ℕ) (c : ℕ → Bool) (b : Bool) → ((l : ℕ) → l < k → c l ≡ false) → flips k c b ≡ b
flips_none zero c b none = refl
flips_none (suc k) c b none = flips_none k (λ l. c (suc l)) (toggle (c 0) b) (λ l h. none (suc l) (omega arith)) ∙ ap (λ x. toggle x b) (none 0 (omega arith))

flips_add : (j k : ℕ) (c : ℕ → Bool) (b : Bool) → flips (j + k) c b ≡ flips k (λ l. c (j + l)) (flips j c b)
flips_add zero k c b = rw (zero-add k) (flips_agree k c (λ l. c (0 + l)) b (λ l h. ap c (sym (zero-add l))))
flips_add (suc j) k c b = rw (suc-add j k) (flips_add j k (λ l. c (suc l)) (toggle (c 0) b)
    ∙ flips_agree k (λ l. c (suc (j + l))) (λ l. c (suc j + l)) (flips j (λ l. c (suc l)) (toggle (c 0) b)) (λ l h. ap c (sym (suc-add j l))))

flips_toggle : (k : ℕ) (c : ℕ → Bool) (a b : Bool) → flips k c (toggle a b) ≡ toggle a (flips k c b)
flips_toggle zero c a b = refl
flips_toggle (suc k) c a b = ap (flips k (λ l. c (suc l))) (toggle_swap (c 0) a b) ∙ flips_toggle k (λ l. c (suc l)) a (toggle (c 0) b)

flips_twice : (k : ℕ) (c : ℕ → Bool) (b : Bool) → flips k c (flips k c b) ≡ b
flips_twice zero c b = refl
flips_twice (suc k) c b =
    let d : ℕ → Bool = λ l. c (suc l) in
    ap (flips k d) (sym (flips_toggle k d (c 0) (toggle (c 0) b)) ∙ ap (flips k d) (toggle_twice (c 0) b)) ∙ flips_twice k d b

-- Two rounds that are the same.
pub flips_round : (k : ℕ) (c : ℕ → Bool) (b : Bool) → ((l : ℕ) → c (k + l) ≡ c l) → flips (k + k) c b ≡ b
flips_round k c b again = flips_add k k c b ∙ flips_agree k (λ l. c (k + l)) c (flips k c b) (λ l h. again l) ∙ flips_twice k c b

-- Reading the orders: a store for each, so the laws of text serve.
use Prim.Native.Nat.{ℕ, zero, suc, ◌+◌, ◌-◌, ◌≤◌, ◌<◌}
use mathlib.Core.Path.{◌≡◌, refl, ap}
use mathlib.Core.List.{List, [], ◌∷◌, ◌++◌}
use native.Mathlib.Omega.{arith}
use lib.ListN.{length, take, drop}
use lib.Seq.{sets-eq, take_at}
use Rattle.listing_lines.specs.Text.{Writes, EndFits}
use Rattle.listing_page.specs.Listing.{order_in, orders_in}

pub orders_count : (k : ℕ) (input : List ℕ) (i : ℕ) → length (orders_in k input i) ≡ k
unfolding orders_in
orders_count zero input i = refl
orders_count (suc k) input i = ap suc (orders_count k input (i + 1))

module _ (k : ℕ) (input : List ℕ) where
  pub orders_ends : k ≤ 28 → EndFits 0 (orders_in k input 0)
  orders_ends h = record { fits = omega (arith, orders_count k input 0) }

  module _ {i : ℕ} where
    pub orders_next : {x : ℕ} → x ≡ order_in input i → i < k → orders_in (k - i) input i ≡ (x ∷ []) ++ orders_in (k - (i + 1)) input (i + 1)
    unfolding orders_in
    orders_next q h = let p : k - i ≡ suc (k - (i + 1)) = omega arith in rw (p, ← q)

    pub orders_end : k ≤ i → orders_in (k - i) input i ≡ []
    unfolding orders_in
    orders_end h = let p : k - i ≡ 0 = omega arith in rw p

-- What was stored from the front on is the front.
pub front : {l text m : List ℕ} {j k : ℕ} → Writes l 0 text m j → length text ≡ k → k ≤ length l → take k m ≡ text
front {l} {text} {k = k} w e h =
    rw (w.holds, sets-eq text l 0 (omega arith)) (take_at text (drop (0 + length text) l) k e)

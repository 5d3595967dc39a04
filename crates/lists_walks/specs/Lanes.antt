-- Walks that go on side by side, in lanes, to the products of two lists a and b place by place, on a factor's stretch s with n generators and `count` elements. A lane
-- has the walk to one place's product; it is idle where its place is the lists' length.
use Rattle.std.specs.Prelude.{ℕ, ◌+◌, ◌*◌, ◌-◌, ◌≤◌, ◌<◌, ◌≡◌, Bool, true, List, length, get_or, ltb}
use Rattle.egg.specs.Table.{pick}
use Rattle.egg.specs.Answers.{on_reached}
use Rattle.factor_questions.specs.Walks.{back_along, compose_in}
use Rattle.factor_compose.specs.Routes.{ending}
use Rattle.lists_walks.specs.declared.inner.Lane.{Lane}
use Rattle.lists_walks.specs.declared.inner.FourLanes.{FourLanes}
use Rattle.lists_walks.specs.Products.{Multiplied}
use Rattle.lists_walks.specs.Letters.{Stored}

-- What was looked at before the first place: the rows stand in the stretch, and the lists have the lengths that are wanted.
pub record LanesReady (s : List ℕ) (n count : ℕ) (a b results : List ℕ) : Type 0 where
  pub rows : count * (2 * n + 4) ≤ length s
  pub some : 0 < count
  pub paired : length b ≡ length a
  pub room : length a ≤ length results

-- The result at a place is right.
abbrev pub RightAt : (s : List ℕ) (n count : ℕ) (a b results : List ℕ) (i : ℕ) → Type 0
RightAt s n count a b results i = Multiplied s n count (get_or a i 0) (get_or b i 0) (get_or results i 0)

-- What is left of a lane's walk comes to the product of x and y.
pub record Asked (s : List ℕ) (n count x y : ℕ) (l : Lane) : Type 0 where
  pub first : x < count
  pub second : y < count
  pub comes : on_reached (back_along l.left s n count (l.y - 1) l.at) (ending l.inverted s n count) ≡ compose_in s n count x y

-- A lane stands at an element, with its next letters in an element's row.
pub record Inside (count : ℕ) (l : Lane) : Type 0 where
  pub stored : Stored count l.y
  pub row : l.at < count

-- .. and is on the way to its place's product.
pub record Walking (s : List ℕ) (n count : ℕ) (a b : List ℕ) (l : Lane) : Type 0 where
  pub inside : Inside count l
  pub asked : l.place < length a → Asked s n count (get_or a l.place 0) (get_or b l.place 0) l

-- .. and it is left idle, with letters to go, only when every place has been taken.
pub record Standing (s : List ℕ) (n count : ℕ) (a b : List ℕ) (next : ℕ) (l : Lane) : Type 0 where
  pub walking : Walking s n count a b l
  pub spent : length a ≤ l.place → 5 < l.left → next ≡ length a

-- A lane by its numbers.
abbrev pub lane_of : (place y at left : ℕ) (inverted : Bool) → Lane
lane_of place y at left inverted = record { place = place; y = y; at = at; left = left; inverted = inverted }

-- What a lane may still cost, where the lists have k places.
unfoldable pub weigh : (k : ℕ) (l : Lane) → ℕ
weigh k l = pick (ltb l.place k) (l.left + 1) 0

-- A lane's last letters are walked: whatever was right but for its place is right now, its place too.
pub record Finished (s : List ℕ) (n count : ℕ) (a b : List ℕ) (l : Lane) (old new : List ℕ) : Type 0 where
  pub after : (i : ℕ) → i < length a → ((i ≡ l.place → ⊥) → RightAt s n count a b old i) → RightAt s n count a b new i

-- Where the places before `next` have been taken, those before `next'` are now, and all that have been taken in between are right but for the one in the lane.
pub record Taking (s : List ℕ) (n count : ℕ) (a b : List ℕ) (next : ℕ) (old : List ℕ) (l : Lane) (next' : ℕ) (new : List ℕ) : Type 0 where
  pub stands : Standing s n count a b next' l
  pub onward : next ≤ next'
  pub within : next' ≤ length a
  pub after : (i : ℕ) → (i < next → RightAt s n count a b old i) → i < next' → (i ≡ l.place → ⊥) → RightAt s n count a b new i
  pub weight : weigh (length a) l + 4097 * (length a - next') ≤ 4097 * (length a - next)
  pub moved : l.left ≤ 5 → next < next'

-- The same from a lane that may have held a place before.
pub record Took (s : List ℕ) (n count : ℕ) (a b : List ℕ) (l : Lane) (next : ℕ) (old : List ℕ) (l' : Lane) (next' : ℕ) (new : List ℕ) : Type 0 where
  pub stands : Standing s n count a b next' l'
  pub onward : next ≤ next'
  pub within : next' ≤ length a
  pub after : (i : ℕ) → (i < next → (i ≡ l.place → ⊥) → RightAt s n count a b old i) → i < next' → (i ≡ l'.place → ⊥) → RightAt s n count a b new i
  pub weight : weigh (length a) l' + 4097 * (length a - next') ≤ weigh (length a) l + 4097 * (length a - next)

-- Every place that has been taken is right, but for those in the lanes.
pub record Open (s : List ℕ) (n count : ℕ) (a b : List ℕ) (w : FourLanes) (results : List ℕ) : Type 0 where
  pub p : Standing s n count a b w.next w.p
  pub q : Standing s n count a b w.next w.q
  pub r : Standing s n count a b w.next w.r
  pub t : Standing s n count a b w.next w.t
  pub within : w.next ≤ length a
  pub done : (i : ℕ) → i < w.next → (i ≡ w.p.place → ⊥) → (i ≡ w.q.place → ⊥) → (i ≡ w.r.place → ⊥) → (i ≡ w.t.place → ⊥)
      → RightAt s n count a b results i

unfoldable pub weigh_all : (k : ℕ) (w : FourLanes) → ℕ
weigh_all k w = weigh k w.p + (weigh k w.q + (weigh k w.r + (weigh k w.t + 4097 * (k - w.next))))

-- A lane has more than five letters to go; so has every lane.
pub record Far (count : ℕ) (l : Lane) : Type 0 where
  pub inside : Inside count l
  pub far : 5 < l.left

pub record AllFar (count : ℕ) (w : FourLanes) : Type 0 where
  pub p : Far count w.p
  pub q : Far count w.q
  pub r : Far count w.r
  pub t : Far count w.t

pub record Settled (s : List ℕ) (n count : ℕ) (a b : List ℕ) (w w' : FourLanes) (new : List ℕ) : Type 0 where
  pub opened : Open s n count a b w' new
  pub far : AllFar count w'
  pub weight : weigh_all (length a) w' ≤ weigh_all (length a) w

-- A lane has gone on, by some letters if it is live, and what is left comes to the same.
pub record Forward (s : List ℕ) (n count : ℕ) (live : Bool) (l l' : Lane) : Type 0 where
  pub inside : Inside count l'
  pub place : l'.place ≡ l.place
  pub inverted : l'.inverted ≡ l.inverted
  pub fewer : l'.left ≤ l.left
  pub less : live ≡ true → l'.left < l.left
  pub leads : back_along l'.left s n count (l'.y - 1) l'.at ≡ back_along l.left s n count (l.y - 1) l.at

pub record AllForward (s : List ℕ) (n count : ℕ) (live : Bool) (w w' : FourLanes) : Type 0 where
  pub p : Forward s n count live w.p w'.p
  pub q : Forward s n count live w.q w'.q
  pub r : Forward s n count live w.r w'.r
  pub t : Forward s n count live w.t w'.t
  pub next : w'.next ≡ w.next

-- Some lane has a place; or none has.
pub data SomeLive (k : ℕ) (w : FourLanes) : Type 0 where
  live_p : w.p.place < k → SomeLive k w
  live_q : w.q.place < k → SomeLive k w
  live_r : w.r.place < k → SomeLive k w
  live_t : w.t.place < k → SomeLive k w

pub record NoneLive (k : ℕ) (w : FourLanes) : Type 0 where
  pub p : k ≤ w.p.place
  pub q : k ≤ w.q.place
  pub r : k ≤ w.r.place
  pub t : k ≤ w.t.place

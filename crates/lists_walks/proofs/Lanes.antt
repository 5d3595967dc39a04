-- Laws of one lane: what it takes, how it goes on, and what it stores. Everything rests on `after`: what is stored is right for its place, and all else stays.
use Prim.Native.Nat.{ℕ, ◌+◌, ◌*◌, ◌-◌, ◌/◌, ◌≤◌, ◌<◌}
use mathlib.Core.Path.{◌≡◌, refl, sym, subst, ◌∙◌}
use mathlib.Core.Bool.{Bool, true, false}
use mathlib.Core.List.{List}
use native.Mathlib.Decide.{ℕ_discrete}
use native.Mathlib.Omega.{arith}
use borrow.Author.Tests.{lt-ltb, le-ltb, ltb-true, ltb-false, leb-true, leb-false}
use lib.ListN.{length, get_or, set}
use lib.Seq.{get_or-set_same, get_or-set_other}
use lib.Dec.{ltb, leb}
use Rattle.std.specs.Prelude.{Ok}
use Rattle.egg.specs.Table.{hop_of, inverse_of, pick}
use Rattle.egg.proofs.Rooms.{false_true}
use Rattle.factor_word_letters.specs.Spell.{cell_by}
use Rattle.factor_word_walks.specs.Letters.{LettersBack}
use Rattle.factor_word_walks.proofs.Walks.{row_more}
use Rattle.factor_quick_walks.proofs.Numbers.{five_above, retrace_last}
use Rattle.factor_compose.specs.Routes.{Routed}
use Rattle.factor_compose.proofs.Numbers.{chosen_inside, ending_reached}
use Rattle.lists_walks.specs.declared.inner.Lane.{Lane}
use Rattle.lists_walks.specs.Products.{Multiplied}
use Rattle.lists_walks.specs.Letters.{CellBack}
use Rattle.lists_walks.specs.Lanes.{LanesReady, RightAt, Asked, Walking, Standing, lane_of, weigh, Finished, Taking, Took, Far, Forward}

-- What was right but for a place is right once that has its product.
pub set_after : (P : ℕ → ℕ → Type 0) (l : List ℕ) (i : ℕ) {v : ℕ} → i < length l → P i v → (j : ℕ) → ((j ≡ i → ⊥) → P j (get_or l j 0)) → P j (get_or (set l i v) j 0)
set_after P l i {v} h new j old = go (ℕ_discrete j i) where
  go : Dec (j ≡ i) → P j (get_or (set l i v) j 0)
  go (yes q) = rw (q, get_or-set_same l i v 0 h) new
  go (no d) = rw (get_or-set_other l i j v 0 d) (old d)

-- Only a lane with a place costs anything.
module _ {k : ℕ} (l : Lane) where
  pub weigh_live : l.place < k → weigh k l ≡ l.left + 1
  unfolding weigh
  weigh_live h = simp (lt-ltb _ _ h)

  pub weigh_idle : k ≤ l.place → weigh k l ≡ 0
  unfolding weigh
  weigh_idle h = simp (le-ltb _ _ h)

-- A lane that takes places until it has more than five letters to go comes to an end: k is how many places there are.
pub settles : (k : ℕ) {next next' left left' : ℕ} → next ≤ next' → next' ≤ k → (left' ≤ 5 → next < next') → left ≤ 5
    → 7 * (k - next') + (6 - left') < 7 * (k - next) + (6 - left)
settles k {next} {next'} {left} {left'} h o moved l = by (leb left' 5) refl where
  by : (t : Bool) → leb left' 5 ≡ t → 7 * (k - next') + (6 - left') < 7 * (k - next) + (6 - left)
  by true z = omega (arith, moved (leb-true _ _ z))
  by false z = omega (arith, leb-false left' 5 z)

module _ {s : List ℕ} {n count : ℕ} {a b : List ℕ} where
  -- The lists stay as long as they were.
  pub ready_kept : {old new : List ℕ} → LanesReady s n count a b old → length new ≡ length old → LanesReady s n count a b new
  ready_kept R q = record { rows = R.rows; some = R.some; paired = R.paired; room = rw q R.room }

  pub standing_later : {next next' : ℕ} {l : Lane} → Standing s n count a b next l → next ≤ next' → next' ≤ length a → Standing s n count a b next' l
  standing_later S h k = record { walking = S.walking; spent = λ o m. let q = S.spent o m in omega arith }

  idle_walks : (left : ℕ) → 0 < count → Walking s n count a b (lane_of (length a) 1 0 left false)
  idle_walks left h = record {
    inside = record { stored = record { some = omega arith; small = omega arith }; row = h };
    asked = λ o. absurd (omega arith);
  }

  pub idle_stands : (next : ℕ) → 0 < count → Standing s n count a b next (lane_of (length a) 1 0 0 false)
  idle_stands next h = record { walking = idle_walks 0 h; spent = λ o m. absurd (omega arith) }

  -- The next place: there is none; or its word is short, and the product is stored; or the lane has it.
  pub takes_none : {old : List ℕ} {next : ℕ} {l : Lane} → LanesReady s n count a b old → next ≤ length a → length a ≤ next → l ≡ lane_of (length a) 1 0 4096 false
      → Taking s n count a b next old l next old
  takes_none {old} {next} R h k q = subst (λ m. Taking s n count a b next old m next old) (sym q) (record {
    stands = record { walking = idle_walks 4096 R.some; spent = λ o m. omega arith };
    onward = omega arith;
    within = h;
    after = λ i f o m. f o;
    weight = omega (arith, weigh_idle {k = length a} (lane_of (length a) 1 0 4096 false) (omega arith));
    moved = λ o. absurd (omega arith);
  })

  module _ {old : List ℕ} {next : ℕ} (R : LanesReady s n count a b old) (h : next < length a) where
    pub right_more : {x : ℕ} → Multiplied s n count (get_or a next 0) (get_or b next 0) x → (i : ℕ) → (i < next → RightAt s n count a b old i) → i < next + 1
        → RightAt s n count a b (set old next x) i
    right_more M i f o = set_after (λ j v. Multiplied s n count (get_or a j 0) (get_or b j 0) v) old next (omega (arith, R.room)) M i (λ d. f (omega arith))

    pub takes_short : {x : ℕ} {l : Lane} → Multiplied s n count (get_or a next 0) (get_or b next 0) x → l ≡ lane_of (length a) 1 0 0 false
        → Taking s n count a b next old l (next + 1) (set old next x)
    takes_short {x} M q = subst (λ m. Taking s n count a b next old m (next + 1) (set old next x)) (sym q) (record {
      stands = idle_stands (next + 1) R.some;
      onward = omega arith;
      within = omega arith;
      after = λ i f o m. right_more M i f o;
      weight = omega (arith, weigh_idle {k = length a} (lane_of (length a) 1 0 0 false) (omega arith));
      moved = λ o. omega arith;
    })

    pub takes_long : {t : Bool} {letters from word : ℕ} → get_or a next 0 < count → get_or b next 0 < count
        → Routed s n count (get_or a next 0) (get_or b next 0) t letters from word
        → Taking s n count a b next old (lane_of next (from + 1) word letters t) (next + 1) old
    takes_long {t} {letters} {from} {word} k j W = record {
      stands = record {
        walking = record {
          inside = record { stored = record { some = omega arith; small = omega (arith, W.starts) }; row = W.along_element };
          asked = λ o. record { first = k; second = j; comes = let d : from + 1 - 1 ≡ from = omega arith in rw d W.product };
        };
        spent = λ o m. absurd (omega arith);
      };
      onward = omega arith;
      within = omega arith;
      after = λ i f o m. f (omega arith);
      weight = omega (arith, weigh_live {k = length a} (lane_of next (from + 1) word letters t) h, W.short);
      moved = λ o. omega arith;
    }

  -- The end of a walk.
  pub finishes_idle : (old : List ℕ) {l : Lane} → length a ≤ l.place → Finished s n count a b l old old
  finishes_idle old h = record { after = λ i k f. f (λ e. absurd (omega arith)) }

  module _ {old : List ℕ} {l : Lane} (R : LanesReady s n count a b old) (W : Walking s n count a b l) (h : l.place < length a) where
    pub finishes : {c y z v : ℕ} → c ≡ hop_of s n l.at → cell_by l.left n 1 c ≡ true → l.left ≤ 5 → 0 < y → y ≤ count
        → LettersBack s n count (l.y - 1) c l.left (Ok (record { 0 = y - 1 })) → z ≡ inverse_of s n (y - 1) → z < count → v ≡ pick l.inverted z (y - 1)
        → Finished s n count a b l old (set old l.place v)
    finishes {c} {y} {z} {v} q t k some small L p m e = record {
      after = λ i o f. set_after (λ j x. Multiplied s n count (get_or a j 0) (get_or b j 0) x) old l.place (omega (arith, R.room)) M i f;
    }
      where
        A : Asked s n count (get_or a l.place 0) (get_or b l.place 0) l
        A = W.asked h

        inside : v < count
        inside = chosen_inside l.inverted e m (omega arith)

        M : Multiplied s n count (get_or a l.place 0) (get_or b l.place 0) v
        M = record {
          first = A.first;
          second = A.second;
          product = ending_reached s n count (get_or a l.place 0) (get_or b l.place 0) l.inverted A.comes
              (retrace_last s n count (l.y - 1) l.at W.inside.row q t k L) p e inside;
        }

  -- From one place to the next.
  pub took_none : {l : Lane} {next : ℕ} (old : List ℕ) → Standing s n count a b next l → next ≤ length a → Took s n count a b l next old l next old
  took_none old S h = record { stands = S; onward = omega arith; within = h; after = λ i f o m. f o m; weight = omega arith }

  pub took_more : {l l' l'' : Lane} {next next' next'' : ℕ} {old mid more new : List ℕ} → Took s n count a b l next old l' next' mid → Finished s n count a b l' mid more
      → Taking s n count a b next' more l'' next'' new → Took s n count a b l next old l'' next'' new
  took_more T F G = record {
    stands = G.stands;
    onward = omega (arith, T.onward, G.onward);
    within = G.within;
    after = λ i f o m. G.after i (λ k. F.after i (omega (arith, T.within)) (λ d. T.after i f k d)) o m;
    weight = omega (arith, T.weight, G.weight);
  }

-- Going on by five letters, or by none.
module _ {s : List ℕ} {n count : ℕ} where
  pub forward : {l l' : Lane} {c y : ℕ} → Far count l → c ≡ hop_of s n l.at → CellBack s n count 5 l.y c y → l' ≡ lane_of l.place y (c / 32768) (l.left - 5) l.inverted
      → {live : Bool} → Forward s n count live l l'
  forward {l} {l'} {c} {y} E q C e {live} = subst (λ m. Forward s n count live l m) (sym e) (record {
    inside = record { stored = C.stored; row = five_above n count c C.within };
    place = refl;
    inverted = refl;
    fewer = omega arith;
    less = λ t. omega (arith, E.far);
    leads = row_more s n count (l.y - 1) l.at E.inside.row q C.within E.far C.back refl;
  })

  pub stays : {l : Lane} {live : Bool} → live ≡ false → Far count l → Forward s n count live l l
  stays f E = record { inside = E.inside; place = refl; inverted = refl; fewer = omega arith; less = λ t. absurd (false_true (sym f ∙ t)); leads = refl }

  module _ {live : Bool} {l l' : Lane} (F : Forward s n count live l l') where
    asked_forward : {x y : ℕ} → Asked s n count x y l → Asked s n count x y l'
    asked_forward A = record { first = A.first; second = A.second; comes = rw (F.leads, F.inverted) A.comes }

    pub standing_forward : {a b : List ℕ} {next : ℕ} → Standing s n count a b next l → Standing s n count a b next l'
    standing_forward {a} {b} S = record {
      walking = record {
        inside = F.inside;
        asked = λ h. subst (λ i. Asked s n count (get_or a i 0) (get_or b i 0) l') (sym F.place) (asked_forward (S.walking.asked (omega (arith, F.place))));
      };
      spent = λ o m. S.spent (omega (arith, F.place)) (omega (arith, F.fewer));
    }

    pub weigh_less : (k : ℕ) → live ≡ true → l.place < k → weigh k l' < weigh k l
    weigh_less k t h = omega (arith, weigh_live {k = k} l h, weigh_live {k = k} l' (omega (arith, F.place)), F.less t)

    pub weigh_forward : (k : ℕ) → weigh k l' ≤ weigh k l
    weigh_forward k = by (ltb l.place k) refl where
      by : (t : Bool) → ltb l.place k ≡ t → weigh k l' ≤ weigh k l
      by true z =
          let h : l.place < k = ltb-true _ _ z in
          omega (arith, weigh_live {k = k} l h, weigh_live {k = k} l' (omega (arith, F.place)), F.fewer)
      by false z =
          let h : k ≤ l.place = ltb-false _ _ z in
          omega (arith, weigh_idle {k = k} l' (omega (arith, F.place)))

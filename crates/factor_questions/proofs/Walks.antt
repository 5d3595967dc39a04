-- Laws of what is answered by walks, one for each answer, by the tests that lead to it.
use Prim.Native.Nat.{ℕ, ◌≤◌, ◌<◌}
use mathlib.Core.Path.{◌≡◌}
use mathlib.Core.List.{List}
use native.Mathlib.Omega.{arith}
use borrow.Author.Tests.{lt-ltb, le-ltb, le-leb, lt-leb}
use Rattle.std.specs.Prelude.{Ok}
use Rattle.egg.specs.Table.{length_of, inverse_of}
use Rattle.egg.specs.Factor.{refused_reach, read_step}
use Rattle.factor_questions.specs.Walks.{along, back_along, inverse_in, compose_in, generator_in}
use Rattle.egg.specs.Answers.{on_reached}

module _ (s : List ℕ) (n count a b : ℕ) {len : ℕ} (q : len ≡ length_of s n b) where
  pub compose_short : len ≤ 5 → along len s n count a b ≡ compose_in s n count a b
  unfolding compose_in
  compose_short h = rw (← q) (simp (le-leb _ _ h))

  pub compose_long : 4096 < len → refused_reach 17 0 ≡ compose_in s n count a b
  unfolding compose_in
  compose_long h = let o : 5 < len = omega arith in rw (← q) (simp (lt-leb _ _ o, lt-ltb _ _ h))

  module _ (more : 5 < len) (h : len ≤ 4096) {i : ℕ} (p : i ≡ inverse_of s n b) where
    pub compose_beyond : count ≤ i → refused_reach 17 0 ≡ compose_in s n count a b
    unfolding compose_in
    compose_beyond k = rw (← q, ← p) (simp (lt-leb _ _ more, le-ltb _ _ h, le-leb _ _ k))

    module _ (k : i < count) {own : ℕ} (v : own ≡ length_of s n a) where
      pub compose_first : own < len → on_reached (back_along own s n count i a) (inverse_in s n count) ≡ compose_in s n count a b
      unfolding compose_in
      compose_first z = rw (← q, ← p, ← v) (simp (lt-leb _ _ more, le-ltb _ _ h, lt-leb _ _ k, lt-ltb _ _ z))

      module _ (o : len ≤ own) where
        pub compose_own : 4096 < own → refused_reach 17 0 ≡ compose_in s n count a b
        unfolding compose_in
        compose_own z = rw (← q, ← p, ← v) (simp (lt-leb _ _ more, le-ltb _ _ h, lt-leb _ _ k, le-ltb _ _ o, lt-ltb _ _ z))

        module _ (l : own ≤ 4096) {back : ℕ} (w : back ≡ length_of s n i) where
          pub compose_other : 4096 < back → refused_reach 17 0 ≡ compose_in s n count a b
          unfolding compose_in
          compose_other z = rw (← q, ← p, ← v, ← w) (simp (lt-leb _ _ more, le-ltb _ _ h, lt-leb _ _ k, le-ltb _ _ o, le-ltb _ _ l, lt-ltb _ _ z))

          pub compose_along : back ≤ 4096 → len < back → along len s n count a b ≡ compose_in s n count a b
          unfolding compose_in
          compose_along m z =
              rw (← q, ← p, ← v, ← w) (simp (lt-leb _ _ more, le-ltb _ _ h, lt-leb _ _ k, le-ltb _ _ o, le-ltb _ _ l, le-ltb _ _ m, lt-ltb _ _ z))

          pub compose_back : back ≤ len → back_along back s n count a i ≡ compose_in s n count a b
          unfolding compose_in
          compose_back z =
              let m : back ≤ 4096 = omega arith in
              rw (← q, ← p, ← v, ← w) (simp (lt-leb _ _ more, le-ltb _ _ h, lt-leb _ _ k, le-ltb _ _ o, le-ltb _ _ l, le-ltb _ _ m, le-ltb _ _ z))

module _ (s : List ℕ) (n count a : ℕ) {i : ℕ} (q : i ≡ inverse_of s n a) where
  pub inverse_beyond : count ≤ i → refused_reach 17 0 ≡ inverse_in s n count a
  unfolding inverse_in
  inverse_beyond h = rw (← q) (simp (le-leb _ _ h))

  pub inverse_element : i < count → Ok (record { 0 = i }) ≡ inverse_in s n count a
  unfolding inverse_in
  inverse_element h = rw (← q) (simp (lt-leb _ _ h))

module _ (s : List ℕ) (n count g : ℕ) where
  pub generator_none : n ≤ g → refused_reach 14 0 ≡ generator_in s n count g
  unfolding generator_in
  generator_none h = simp (le-leb _ _ h)

  pub generator_step : g < n → read_step s n count 0 g ≡ generator_in s n count g
  unfolding generator_in
  generator_step h = simp (lt-leb _ _ h)

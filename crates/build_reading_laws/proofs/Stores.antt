-- What storing a step and storing a word do to the cells of the rows. Cell k of row e: the n successors are cells g, the n predecessors cells n + g,
-- parent, last generator and length cells 2n, 2n + 1 and 2n + 2.
use Prim.Native.Nat.{ℕ, suc, ◌+◌, ◌*◌, ◌≤◌, ◌<◌}
use mathlib.Core.Path.{◌≡◌, ◌∙◌}
use mathlib.Core.Logic.{◌⊎◌, inl, inr}
use mathlib.Core.List.{List}
use native.Mathlib.Decide.{ℕ_discrete}
use native.Mathlib.Omega.{arith}
use lib.ListN.{length, get_or}
use Rattle.egg.specs.Table.{start_of, put_at}
use Rattle.build_reading.specs.Build.{set_step, set_word}
use Rattle.egg.proofs.Cells.{put_same, put_other, put_length, same_row, same_cell, cell_inside}

abbrev pub cell : List ℕ → ℕ → ℕ → ℕ → ℕ
cell t n e k = get_or t (start_of n e + k) 0

-- The step x·g = v and the word of a new element, by their numbers.
abbrev pub stepped : List ℕ → ℕ → ℕ → ℕ → ℕ → List ℕ
stepped t n x g v = set_step t n (record { 0 = x }) (record { 0 = g }) (record { 0 = v })

abbrev pub worded : List ℕ → ℕ → ℕ → ℕ → ℕ → ℕ → List ℕ
worded t n c x g len = set_word t n (record { 0 = c }) (record { 0 = x }) (record { 0 = g }) len

-- Cells that are not one and the same stand at two places.
apart : (n e e' : ℕ) {k k' : ℕ} → k < 2 * n + 4 → k' < 2 * n + 4 → (e ≡ e' → k ≡ k' → ⊥) → start_of n e + k ≡ start_of n e' + k' → ⊥
unfolding start_of
apart n e e' hk hk' d q = d (same_row e e' hk hk' q) (same_cell e e' hk hk' q)

module _ (t : List ℕ) (n x g v : ℕ) (hg : g < n) where
  pub step_length : length (stepped t n x g v) ≡ length t
  unfolding set_step
  step_length = put_length _ _ _ ∙ put_length t _ _

  off_predecessor : (e k : ℕ) → k < 2 * n + 4 → (e ≡ v → k ≡ n + g → ⊥) → start_of n e + k ≡ start_of n v + n + g → ⊥
  off_predecessor e k hk d q = apart n e v hk (omega arith) d (q ∙ omega arith)

  pub step_keeps : (e k : ℕ) → k < 2 * n + 4 → (e ≡ x → k ≡ g → ⊥) → (e ≡ v → k ≡ n + g → ⊥) → cell (stepped t n x g v) n e k ≡ cell t n e k
  unfolding set_step
  step_keeps e k hk a b = put_other _ _ (x + 1) (off_predecessor e k hk b) ∙ put_other t _ (v + 1) (apart n e x hk (omega arith) a)

  -- Both rows are within the list, and both numbers have 32 bits.
  module _ {c : ℕ} (hx : x < c) (hv : v < c) (fits : c * (2 * n + 4) ≤ length t) (small : c ≤ 65535) where
    successor_in : start_of n x + g < c * (2 * n + 4)
    successor_in = cell_inside n (omega arith) hx

    predecessor_in : start_of n v + n + g < c * (2 * n + 4)
    predecessor_in = omega (arith, cell_inside n {k = n + g} (omega arith) hv)

    pub step_successor : cell (stepped t n x g v) n x g ≡ suc v
    unfolding set_step
    step_successor =
        put_other _ _ (x + 1) (off_predecessor x g (omega arith) (λ p q. omega arith))
        ∙ put_same t (start_of n x + g) (v + 1) (omega (arith, successor_in)) (omega arith) ∙ omega arith

    pub step_predecessor : cell (stepped t n x g v) n v (n + g) ≡ suc x
    unfolding set_step
    step_predecessor =
        let p : start_of n v + (n + g) ≡ start_of n v + n + g = omega arith in
        let l = put_length t (start_of n x + g) (v + 1) in
        rw p (put_same _ (start_of n v + n + g) (x + 1) (omega (arith, predecessor_in)) (omega arith) ∙ omega arith)

    -- A predecessor's cell is the one that is stored, or as it was.
    pub predecessor_or_kept : (r h : ℕ) → h < n
        → ((r ≡ v) × (h ≡ g) × (cell (stepped t n x g v) n r (n + h) ≡ suc x)) ⊎ (cell (stepped t n x g v) n r (n + h) ≡ cell t n r (n + h))
    predecessor_or_kept r h hh = go (ℕ_discrete r v) (ℕ_discrete h g) where
      kept : (r ≡ v → n + h ≡ n + g → ⊥) → cell (stepped t n x g v) n r (n + h) ≡ cell t n r (n + h)
      kept d = step_keeps r (n + h) (omega arith) (λ p q. omega arith) d

      go : Dec (r ≡ v) → Dec (h ≡ g)
          → ((r ≡ v) × (h ≡ g) × (cell (stepped t n x g v) n r (n + h) ≡ suc x)) ⊎ (cell (stepped t n x g v) n r (n + h) ≡ cell t n r (n + h))
      go (yes p) (yes q) = inl (p, q, rw (p, q) step_predecessor)
      go (yes p) (no d) = inr (kept (λ a b. d (omega arith)))
      go (no d) q = inr (kept (λ a b. d a))

    pub step_beyond : (i : ℕ) → c * (2 * n + 4) ≤ i → get_or (stepped t n x g v) i 0 ≡ get_or t i 0
    unfolding set_step
    step_beyond i h = put_other _ _ (x + 1) (λ q. omega (arith, predecessor_in)) ∙ put_other t _ (v + 1) (λ q. omega (arith, successor_in))

module _ (t : List ℕ) (n c x g len : ℕ) where
  pub word_length : length (worded t n c x g len) ≡ length t
  unfolding set_word
  word_length = put_length _ _ _ ∙ put_length _ _ _ ∙ put_length t _ _

  pub word_keeps : (e k : ℕ) → k < 2 * n + 4 → (e ≡ c → 2 * n ≤ k → k < 2 * n + 3 → ⊥) → cell (worded t n c x g len) n e k ≡ cell t n e k
  unfolding set_word
  word_keeps e k hk a =
      put_other _ _ len (λ q. off (2 * n + 2) (omega arith) (omega arith) (omega arith))
      ∙ put_other _ _ g (λ q. off (2 * n + 1) (omega arith) (omega arith) (omega arith))
      ∙ put_other t _ x (λ q. off (2 * n) (omega arith) (omega arith) (omega arith)) where
        off : (j : ℕ) → 2 * n ≤ j → j < 2 * n + 3 → start_of n e + k ≡ start_of n c + j → ⊥
        off j l h = apart n e c hk (omega arith) (λ p q. a p (omega arith) (omega arith))

  in_row : (k : ℕ) → k < 2 * n + 4 → start_of n c + k < suc c * (2 * n + 4)
  in_row k hk = cell_inside n hk (omega arith)

  module _ (hx : x ≤ c) (hg : g < n) (hn : n ≤ 8) (hl : len ≤ 4096) (small : c < 65535) (fits : suc c * (2 * n + 4) ≤ length t) where
    pub word_parent : cell (worded t n c x g len) n c (2 * n) ≡ x
    unfolding set_word
    word_parent =
        put_other _ _ len (λ q. omega arith) ∙ put_other _ _ g (λ q. omega arith)
        ∙ put_same t (start_of n c + 2 * n) x (omega (arith, in_row (2 * n) (omega arith))) (omega arith)

    pub word_last : cell (worded t n c x g len) n c (2 * n + 1) ≡ g
    unfolding set_word
    word_last =
        let p : start_of n c + (2 * n + 1) ≡ start_of n c + 2 * n + 1 = omega arith in
        let l = put_length t (start_of n c + 2 * n) x in
        let i = in_row (2 * n + 1) (omega arith) in
        rw p (put_other _ _ len (λ q. omega arith) ∙ put_same _ (start_of n c + 2 * n + 1) g (omega arith) (omega arith))

    pub word_letters : cell (worded t n c x g len) n c (2 * n + 2) ≡ len
    unfolding set_word
    word_letters =
        let p : start_of n c + (2 * n + 2) ≡ start_of n c + 2 * n + 2 = omega arith in
        let l = put_length (put_at t (start_of n c + 2 * n) x) (start_of n c + 2 * n + 1) g ∙ put_length t (start_of n c + 2 * n) x in
        let i = in_row (2 * n + 2) (omega arith) in
        rw p (put_same _ (start_of n c + 2 * n + 2) len (omega arith) (omega arith))

    pub word_beyond : (i : ℕ) → suc c * (2 * n + 4) ≤ i → get_or (worded t n c x g len) i 0 ≡ get_or t i 0
    unfolding set_word
    word_beyond i h =
        put_other _ _ len (λ q. omega (arith, in_row (2 * n + 2) (omega arith)))
        ∙ put_other _ _ g (λ q. omega (arith, in_row (2 * n + 1) (omega arith)))
        ∙ put_other t _ x (λ q. omega (arith, in_row (2 * n) (omega arith)))

-- This file defines what a builder's rows lack where `build` refuses them by 8, "a successor or predecessor missing". A step is stored as one more
-- than its number, and 0 is a missing one.
use Rattle.std.specs.Prelude.{ℕ, suc, ◌<◌, ◌≡◌}
use Rattle.egg.specs.declared.Refusal.{Refusal}
use Rattle.egg.specs.Answers.{numbered}
use Rattle.theory.specs.Appearance.{Ahead}

-- Every step of the first c rows is there.
abbrev pub AllThere : (ℕ → ℕ → ℕ) → ℕ → ℕ → Type 0
AllThere own n c = (y h : ℕ) → y < c → h < n → own y h ≡ 0 → ⊥

-- No step of the first c rows by g leads to e.
abbrev pub NoneLeads : (ℕ → ℕ → ℕ) → ℕ → ℕ → ℕ → Type 0
NoneLeads own c e g = (y : ℕ) → y < c → own y g ≡ suc e → ⊥

-- To each of the first c elements a step of these rows leads, by each generator.
abbrev pub AllLedTo : (ℕ → ℕ → ℕ) → ℕ → ℕ → Type 0
AllLedTo own n c = (y h : ℕ) → y < c → h < n → NoneLeads own c y h → ⊥

-- Where c of the N elements of a builder are reached, this is the place that 8 names. "Places are the first in element order, then generator order;
-- for 8 successors are searched before predecessors." "Rows never reached are not read", so that the successors of the first element that is not
-- reached are missing, and a predecessor is looked for only where all are reached.
pub data BuilderLacks (own : ℕ → ℕ → ℕ) (n N c : ℕ) : Refusal → Type 0 where
  no_successor : (e g : ℕ) → e < c → g < n → own e g ≡ 0 → ((y h : ℕ) → y < c → h < n → Ahead y h e g → own y h ≡ 0 → ⊥)
      → BuilderLacks own n N c (numbered 8 e g 0)
  not_reached : AllThere own n c → 0 < n → c < N → BuilderLacks own n N c (numbered 8 c 0 0)
  no_predecessor : (e g : ℕ) → AllThere own n c → c ≡ N → e < c → g < n → NoneLeads own c e g
      → ((y h : ℕ) → y < c → h < n → Ahead y h e g → NoneLeads own c y h → ⊥) → BuilderLacks own n N c (numbered 8 e g 0)

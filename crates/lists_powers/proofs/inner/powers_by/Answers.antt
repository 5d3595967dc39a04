-- The powers by the whole exponents without signs are those that are asked, by `raised_all`.
use Prim.Native.Nat.{ℕ}
use mathlib.Core.Path.{◌≡◌, ap, sym, ◌∙◌}
use lib.ListN.{length, replicate}
use Rattle.lists_powers.proofs.Rounds.{raised_all}
use borrow.Author.Rules.{rules}
use Rattle.lists_powers.proofs.inner.powers_by.Goals as goal

pub returns-then-not-bases : goal.returns-then-not-bases
returns-then-not-bases c = λ h. search rules

pub rounds-requires : goal.rounds-requires
rounds-requires c = let ks : length (c.bases.new.ks) ≡ length (c.args.a.now) = c.bases.auto.ks ∙ c.requires.1.1.0 in (c.bases.auto.bs ∙ c.requires.1.0 ∙ sym ks, (c.clear.auto.s ∙ c.requires.1.1.1.1.1 ∙ sym ks, (c.requires.1.1.1.0 ∙ sym ks, (c.requires.1.1.1.1.0 ∙ sym ks, c.clear.ensures ∙ ap (λ (m : ℕ). replicate m 0) (c.requires.1.1.1.1.1 ∙ sym ks)))))

pub returns : goal.returns
returns c = λ h. raised_all (c.bases.ensures (c.if-not-bases.false)) (c.bases.auto.ks ∙ c.requires.1.1.0) (c.rounds.ensures h)

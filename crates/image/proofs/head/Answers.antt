-- One law for each answer, in the order of the tests.
use Prim.Native.Nat.{ℕ, ◌+◌, ◌*◌}
use mathlib.Core.Path.{sym, ap, ◌∙◌}
use native.Mathlib.Omega.{arith}
use Rattle.image.proofs.Heads.{product_fits, head_small, head_length_lem, head_version, head_many, head_none, head_formula, head_right, malformed_answer, many_answer, right_answer}
use Rattle.image.proofs.head.Goals as goal

pub returns-then-image-lt8 : goal.returns-then-image-lt8
returns-then-image-lt8 c = malformed_answer c.args.image.now (head_small c.args.image.now c.if-image-lt8.true)

pub returns-then-length-image : goal.returns-then-length-image
returns-then-length-image c = malformed_answer c.args.image.now (head_length_lem c.args.image.now c.if-image-lt8.false (λ z. c.if-length-image.true (ap (λ (x : ℕ). x + 4) c.said_length-length.ensures ∙ z)))

pub returns-then-byte-ne1 : goal.returns-then-byte-ne1
returns-then-byte-ne1 c = malformed_answer c.args.image.now (head_version c.args.image.now c.if-image-lt8.false (ap (λ (x : ℕ). x + 4) (sym c.said_length-length.ensures) ∙ c.if-length-image.false) (λ z. c.if-byte-ne1.true (c.byte.ensures ∙ z)))

pub returns-then-n-gt8 : goal.returns-then-n-gt8
returns-then-n-gt8 c = rw c.generators-n.ensures (many_answer c.args.image.now (head_many c.args.image.now c.if-image-lt8.false (ap (λ (x : ℕ). x + 4) (sym c.said_length-length.ensures) ∙ c.if-length-image.false) (sym c.byte.ensures ∙ c.if-byte-ne1.false) (rw (← c.generators-n.ensures) c.if-n-gt8.true)))

pub returns-then-count-eq0 : goal.returns-then-count-eq0
returns-then-count-eq0 c = malformed_answer c.args.image.now (head_none c.args.image.now c.if-image-lt8.false (ap (λ (x : ℕ). x + 4) (sym c.said_length-length.ensures) ∙ c.if-length-image.false) (sym c.byte.ensures ∙ c.if-byte-ne1.false) (rw (← c.generators-n.ensures) c.if-n-gt8.false) (sym c.elements-count.ensures.at ∙ c.if-count-eq0.true))

pub overflow_mul-n-2 : goal.overflow_mul-n-2
overflow_mul-n-2 c = omega (arith, product_fits c.elements-count.result (2 * c.generators-n.result) (omega (arith, c.elements-count.ensures.small)) (omega arith))

pub overflow_add-n : goal.overflow_add-n
overflow_add-n c = omega (arith, product_fits c.elements-count.result (2 * c.generators-n.result) (omega (arith, c.elements-count.ensures.small)) (omega arith))

pub returns-then-length-n : goal.returns-then-length-n
returns-then-length-n c = malformed_answer c.args.image.now (head_formula c.args.image.now c.if-image-lt8.false (ap (λ (x : ℕ). x + 4) (sym c.said_length-length.ensures) ∙ c.if-length-image.false) (sym c.byte.ensures ∙ c.if-byte-ne1.false) (rw (← c.generators-n.ensures) c.if-n-gt8.false) (λ z. c.if-count-eq0.false (c.elements-count.ensures.at ∙ z)) (λ z. c.if-length-n.true (c.said_length-length.ensures ∙ z ∙ rw (← c.generators-n.ensures, ← c.elements-count.ensures.at))))

pub returns : goal.returns
returns c = right_answer c.args.image.now (head_right c.args.image.now c.if-image-lt8.false (ap (λ (x : ℕ). x + 4) (sym c.said_length-length.ensures) ∙ c.if-length-image.false) (sym c.byte.ensures ∙ c.if-byte-ne1.false) (rw (← c.generators-n.ensures) c.if-n-gt8.false) (λ z. c.if-count-eq0.false (c.elements-count.ensures.at ∙ z)) (sym c.said_length-length.ensures ∙ c.if-length-n.false ∙ rw (c.generators-n.ensures, c.elements-count.ensures.at)))

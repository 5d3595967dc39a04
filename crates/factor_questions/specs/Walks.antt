-- What is answered by walks through a factor's stretch s, with n generators and `count` elements: products, inverses, conjugates and the elements of
-- generators. Document 01: "Calls on handles check 17 in the handle, then 14, .. then 17 in what they read." The handle is looked at before.
use Rattle.std.specs.Prelude.{ℕ, List, ltb, leb}
use Rattle.egg.specs.Answers.{Reached}
use Rattle.std.specs.Prelude.{Ok}
use Rattle.egg.specs.Table.{pick, length_of, inverse_of}
use Rattle.egg.specs.Factor.{refused_reach, read_step}
use Rattle.egg.specs.Answers.{on_reached}
-- The walks themselves, for those who use the answers.
pub use Rattle.factor_word_walks.specs.Walks.{back_along}
unfoldable pub use Rattle.factor_word_walks.specs.Walks.{follow, along, read_step_back, back_by}

-- The inverse, which was found when the table was built and stands in the row; 17 where it is beyond the elements.
unfoldable pub inverse_in : List ℕ → ℕ → ℕ → ℕ → Reached
inverse_in s n count a = pick (leb count (inverse_of s n a)) (refused_reach 17 0) (Ok (record { 0 = inverse_of s n a }))

-- "`compose` walks the word of the second from the first": forward along the word of the second where that has at most five letters; else, where the first's word is
-- shorter, back along that from the inverse of the second, to the inverse of the product; else back along the word of the second's inverse, or, where that is longer,
-- forward along the second's own. On an accepted factor all of these lead to the same element. Each number is tested where it is read: an inverse beyond the elements is
-- 17, and so is a length over 4,096, as for `length_in`; a length below one that has been tested is in range.
unfoldable pub compose_in : (s : List ℕ) (n count a b : ℕ) → Reached
compose_in s n count a b =
    pick (leb (length_of s n b) 5) (along (length_of s n b) s n count a b)
    (pick (ltb 4096 (length_of s n b)) (refused_reach 17 0)
    (pick (leb count (inverse_of s n b)) (refused_reach 17 0)
    (pick (ltb (length_of s n a) (length_of s n b))
    (on_reached (back_along (length_of s n a) s n count (inverse_of s n b) a) (inverse_in s n count))
    (pick (ltb 4096 (length_of s n a)) (refused_reach 17 0)
    (pick (ltb 4096 (length_of s n (inverse_of s n b))) (refused_reach 17 0)
    (pick (ltb (length_of s n b) (length_of s n (inverse_of s n b)))
    (along (length_of s n b) s n count a b)
    (back_along (length_of s n (inverse_of s n b)) s n count a (inverse_of s n b))))))))

-- "`conjugate(a,b)` is a·b·a⁻¹."
unfoldable pub conjugate_in : (s : List ℕ) (n count a b : ℕ) → Reached
conjugate_in s n count a b =
    on_reached (compose_in s n count a b) (λ c. on_reached (inverse_in s n count a) (λ i. compose_in s n count c i))

-- The element of a generator is read from the identity row; a generator that is none is 14.
unfoldable pub generator_in : List ℕ → ℕ → ℕ → ℕ → Reached
generator_in s n count g = pick (leb n g) (refused_reach 14 0) (read_step s n count 0 g)

-- The limits, beside the papers' numbers, and the numbers of the long search.
use Rattle.spec.specs.Vocabulary.{[]}
use Rattle.std.specs.Prelude.{◌≡◌, refl, ◌∷◌}
use Rattle.spec.specs.Limits.{sheet_limit, permission_limit, user_limit, name_limit, grant_limit, search_limit}
use Rattle.spec.specs.Limits.{budget_limit, role_limit, book_limit, program_buffer, round_budget, usual_rounds}

limits : sheet_limit ∷ permission_limit ∷ user_limit ∷ name_limit ∷ grant_limit ∷ search_limit ∷ budget_limit ∷
    role_limit ∷ book_limit ∷ program_buffer ∷ round_budget ∷ usual_rounds ∷ []
    ≡ 65_536 ∷ 128 ∷ 256 ∷ 16 ∷ 2_048 ∷ 128 ∷ 4_294_967_295 ∷ 128 ∷ 131_072 ∷ 65_536 ∷ 100_000_000 ∷ 3_600 ∷ []
unfolding sheet_limit permission_limit user_limit name_limit grant_limit search_limit budget_limit role_limit book_limit
    program_buffer round_budget usual_rounds
limits = refl

-- What the code's values stand for.
use Rattle.std.specs.Prelude.{ℕ, List, map, get_or, Option, Some, None}
use Rattle.std.specs.Borrow.{Bor}
use Rattle.bv_base.specs.declared.place.Place.{Place}
use Rattle.bpl_ast.specs.Place.{Name, Ty}
use Rattle.bpl_scopes.specs.Scopes.{Text, Table}
use Rattle.bpl_scopes.specs.KnownSorts.{names_in}
use Rattle.bpl_scopes.specs.Positions.{first_at}
use Rattle.user_types.specs.UserTypes.{user_after}
use Rattle.user_types.specs.Erased.{Unique, as_integers, maps_over}
use Rattle.user_types.specs.declared.users.Step.{Step}
use Rattle.user_types.specs.declared.users.Step.TheVariants.{Here, On, Nowhere}
use Rattle.user_types.specs.declared.readings.Reading.{Reading}
use Rattle.user_types.specs.declared.readings.Reading.TheVariants.{Integers, Apart}

-- of the name that a type is, where it is one, by the user types of names
abbrev pub named_by : (Text → Option ℕ) → Option Text → Option ℕ
named_by f None = None
named_by f (Some n) = f n

-- where a step from a name leads, with k further ones
abbrev pub after_step : Table → ℕ → Text → Step → Option ℕ
after_step t k n Here = first_at n (names_in t)
after_step t k n (On m) = user_after t k m.now
after_step t k n Nowhere = None

abbrev pub stands_by : Reading → ℕ → Place → Ty
stands_by Integers k p = as_integers k p
stands_by Apart k p = maps_over k p

abbrev pub uniques_seen : List (ℕ × Bor Name) → List Unique
uniques_seen us = map (λ u. (u.0, u.1.now)) us

-- how many of each are counted
unfoldable pub counted : List ℕ → ℕ → ℕ
counted xs i = get_or xs i 0

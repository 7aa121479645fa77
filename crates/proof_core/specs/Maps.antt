-- The rules back, past and differ, on reads of maps.
use Rattle.std.specs.Prelude.{ℤ, pos, negsuc, ◌&&◌, Option, Some, None, is_some, List, [], ◌∷◌, length, if◌then◌else◌}
use Rattle.std.specs.Ordering.{int_eq}
use Rattle.logic_core.specs.Tree.{Kind, int, map, Tree, num, free, linear, read, write, negation, equal, at_most, no_parts, part}
use Rattle.logic_core.specs.Def.{Def}
use Rattle.logic_core.specs.Wide.{◌>>=◌, when}
use Rattle.logic_core.specs.Subterm.{replaced}
use Rattle.logic_core.specs.Normal.{normal}
use Rattle.proof_core.specs.Context.{Context, named, with_variables, appended, appended_each}
use Rattle.proof_core.specs.Split.{stands_in}

-- Read(Write(m, x, v), y)
pub record Access : Type 0 where
  pub table : Tree
  pub at : Tree
  pub value : Tree
  pub index : Tree

abbrev pub access_of_write : Tree → Tree → Option Access
access_of_write (write m x v) y = Some (record { table = m; at = x; value = v; index = y })
access_of_write m y = None

abbrev pub access : Tree → Option Access
access (read m y) = access_of_write m y
access t = None

-- Read(m, y)
abbrev pub before_write : Access → Tree
before_write a = read a.table a.index

abbrev pub as_number : Tree → Option ℤ
as_number (num n) = Some n
as_number t = None

-- Le(0, -d - 1), Eq(d, 0) and Le(0, d - 1)
abbrev pub below_zero : Tree → Tree
below_zero d = at_most (num (pos 0)) (linear (part (negsuc 0) d no_parts) (negsuc 0))

abbrev pub at_zero : Tree → Tree
at_zero d = equal d (num (pos 0))

abbrev pub above_zero : Tree → Tree
above_zero d = at_most (num (pos 0)) (linear (part (pos 1) d no_parts) (negsuc 0))

module _ (defs : List Def) where
  -- the normal x - y
  abbrev pub distance : Context → Access → Option Tree
  distance c a = normal c.vars defs [] (linear (part (pos 1) a.at (part (negsuc 0) a.index no_parts)) (pos 0))

  -- where x - y is a Num: v where that is zero, and else Read(m, y)
  abbrev pub read_at_distance : Context → Access → Option Tree
  read_at_distance c a = distance c a >>= λ d. as_number d >>= λ n. Some (if int_eq n (pos 0) then a.value else before_write a)

  -- back: f with t, a Read of a Write in it, replaced by what it reads
  abbrev pub moved_back : Context → Tree → Tree → Option Context
  moved_back c f t = when (is_some (named defs c t) && stands_in t f) (access t >>= λ a. read_at_distance c a >>= λ u. appended defs c (replaced t u f))

  -- past: d = x - y is below, at or above zero, and t is Read(m, y), v or Read(m, y)
  abbrev pub moved_past : Context → Tree → Option (Context × Context × Context)
  moved_past c t = when (is_some (named defs c t)) (access t >>= λ a. distance c a >>= λ d.
      appended_each defs c (below_zero d ∷ equal t (before_write a) ∷ []) >>= λ below.
      appended_each defs c (at_zero d ∷ equal t a.value ∷ []) >>= λ same.
      appended_each defs c (above_zero d ∷ equal t (before_write a) ∷ []) >>= λ above. Some (below, same, above))

  -- differ, of the Not of an Eq of maps: they differ at an index, which is a new variable
  abbrev pub different_at : Context → Tree → Tree → Option Kind → Option Context
  different_at c a b (Some (map k)) = let w = free (length c.vars) in appended defs (with_variables c (int ∷ [])) (negation (equal (read a w) (read b w)))
  different_at c a b k = None

  abbrev pub different : Context → Tree → Option Context
  different c (equal a b) = different_at c a b (named defs c a)
  different c t = None

  abbrev pub differing : Context → Tree → Option Context
  differing c (negation t) = different c t
  differing c t = None

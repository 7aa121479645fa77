-- The rules replace and unfold.
use Rattle.std.specs.Prelude.{◌&&◌, Option, Some, None, is_some, List, slice_get}
use Rattle.logic_core.specs.Tree.{Tree, call}
use Rattle.logic_core.specs.Def.{Def}
use Rattle.logic_core.specs.Wide.{◌>>=◌, when}
use Rattle.logic_core.specs.Substitute.{substitute}
use Rattle.logic_core.specs.Subterm.{replaced, listed}
use Rattle.proof_core.specs.Context.{Context, named, appended}
use Rattle.proof_core.specs.Says.{says}
use Rattle.proof_core.specs.Split.{stands_in}

module _ (defs : List Def) where
  -- replace: f with t replaced everywhere by what g says that it is equal to
  abbrev pub replacement : Context → Tree → Tree → Tree → Option Context
  replacement c f g t = when (is_some (named defs c t)) (says g t >>= λ u. appended defs c (replaced t u f))

  -- the body of the called definition with the arguments for its parameters
  abbrev pub body_of : Tree → Option Tree
  body_of (call n ts) = slice_get defs n >>= λ d. Some (substitute d.body (listed ts))
  body_of t = None

  -- unfold: f with the call t in it replaced by the definition's body
  abbrev pub unfolded : Context → Tree → Tree → Option Context
  unfolded c f t = when (is_some (named defs c t) && stands_in t f) (body_of t >>= λ u. appended defs c (replaced t u f))

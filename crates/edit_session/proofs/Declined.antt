-- A board that does not open goals between others is as it was.
use Rattle.std.proofs.Common.{◌≡◌, subst, ℕ, List, Option, Some, None}
use Rattle.std.specs.Prelude.{IfSome, IfNone}
use Rattle.goal_board.specs.Calls.{Board, BoardCall}
use Rattle.goal_board.specs.Made.{AreMade}
use Rattle.edit_session.specs.Told.{IsUndone}

pub none_so : {A P : Type 0} (o : Option A) → o ≡ None → IfNone o P → P
none_so None e h = h
none_so (Some x) e h = absurd (cc)

pub some_so : {A : Type 0} (P : A → Type 0) (o : Option A) (x : A) → o ≡ Some x → IfSome o P → P x
some_so P None x e h = absurd (cc)
some_so P (Some y) x e h = let same : y ≡ x = cc in subst P same h

module _ (workers : ℕ) (s r t : Board) (n m k : List BoardCall) (board : r ≡ s) (calls : m ≡ n) where
  pub made_from : (es : List BoardCall) → AreMade workers r m t k es → AreMade workers s n t k es
  made_from es h = subst (λ x. AreMade workers s x t k es) calls (subst (λ (b : Board). AreMade workers b m t k es) board h)

  pub undone_from : IsUndone workers r m t k → IsUndone workers s n t k
  undone_from h = subst (λ x. IsUndone workers s x t k) calls (subst (λ (b : Board). IsUndone workers b m t k) board h)

-- The first fault of a list is one of its faults, and none of them stands before it.
use Rattle.std.proofs.Common.{◌≡◌, ◌≢◌, inl, inr, refl, ap, sym, ◌∙◌, subst, List, [], ◌∷◌, Option, Some, None}
use Rattle.std.specs.declared.cmp.Ordering.{Ordering}
use Rattle.std.specs.declared.cmp.Ordering.TheVariants.{Less, Equal, Greater}
use Rattle.std.specs.Ordering.{ordering_reverse}
use Rattle.std.proofs.lemmas.Cmp.{tied_itself}
use Rattle.bpl_scopes.specs.declared.fault.Fault.{Fault}
use Rattle.bpl_scopes.specs.Fault.{order, chosen, first_of_two, earlier, first_fault}
use Rattle.bpl_scopes.specs.FaultLaws.{NoneBefore, IsFirstOf}
use Rattle.bpl_scopes.proofs.FirstOfTwo.{equal_not_less, greater_not_less}
use Rattle.bpl_scopes.proofs.FirstFault.{order_total}

-- none at all, or the first
abbrev IsLeast : List Fault → Option Fault → Type 0
IsLeast fs None = fs ≡ []
IsLeast fs (Some f) = IsFirstOf f fs

not_itself : (f : Fault) → order f f ≢ Less
not_itself f h = let e = tied_itself order_total f in cc

not_back : (f g : Fault) → order g f ≡ Less → order f g ≢ Less
not_back f g h k = let e = order_total.antisymm f g ∙ ap ordering_reverse h in cc

passed_on : (f g : Fault) (gs : List Fault) → ((h : Fault) → order h f ≡ Less → order h g ≡ Less) → NoneBefore g gs → NoneBefore f gs
passed_on f g [] pass n = n
passed_on f g (h ∷ hs) pass n = ((λ e. n.0 (pass h e)), passed_on f g hs pass n.1)

by_order : (f g : Fault) (fs : List Fault) (r : Ordering) → order g f ≡ r → IsFirstOf g fs → IsFirstOf (chosen r f g) (f ∷ fs)
by_order f g fs Less p i = record { there = inr i.there; first = (not_back f g p, i.first) }
by_order f g fs Equal p i = record { there = inl refl; first = (not_itself f, passed_on f g fs (λ h e. equal_not_less order order_total f g h p e) i.first) }
by_order f g fs Greater p i = record { there = inl refl; first = (not_itself f, passed_on f g fs (λ h e. greater_not_less order order_total f g h p e) i.first) }

next : (f : Fault) (fs : List Fault) (o : Option Fault) → IsLeast fs o → IsLeast (f ∷ fs) (earlier (Some f) o)
unfolding first_of_two
next f fs None e = record { there = inl refl; first = (not_itself f, subst (NoneBefore f) (sym e) tt) }
next f fs (Some g) i = by_order f g fs (order g f) refl i

is_least : (fs : List Fault) → IsLeast fs (first_fault fs)
is_least [] = refl
is_least (f ∷ fs) = next f fs (first_fault fs) (is_least fs)

pub first_fault-is-first : (fs : List Fault) (f : Fault) → first_fault fs ≡ Some f → IsFirstOf f fs
first_fault-is-first fs f e = subst (IsLeast fs) e (is_least fs)

pub no_first-no_fault : (fs : List Fault) → first_fault fs ≡ None → fs ≡ []
no_first-no_fault fs e = subst (IsLeast fs) e (is_least fs)

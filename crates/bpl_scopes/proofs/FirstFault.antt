-- The first fault of two lists joined is the earlier of their first faults.
use Rattle.std.proofs.Common.{◌≡◌, refl, ap, sym, ◌∙◌, List, [], ◌∷◌, ◌++◌, Option, Some, None}
use Rattle.std.specs.declared.cmp.Ordering.{Ordering}
use Rattle.std.specs.declared.cmp.Ordering.TheVariants.{Less, Equal, Greater}
use Rattle.std.specs.Cmp.{IsTotalOrder}
use Rattle.std.proofs.lemmas.Cmp.{nat_cmp_total, on_total, then_total}
use Rattle.bpl_scopes.specs.declared.fault.Fault.{Fault}
use Rattle.bpl_scopes.specs.Fault.{number, construct_number, order, chosen, first_of_two, earlier, first_fault}
use Rattle.bpl_scopes.proofs.FirstOfTwo.{picked, pick, pick-assoc}

pub order_total : IsTotalOrder order
order_total = then_total (on_total (λ (f : Fault). f.at.line) nat_cmp_total) (then_total (on_total (λ (f : Fault). f.at.col) nat_cmp_total)
    (then_total (on_total (λ (f : Fault). number f.kind) nat_cmp_total) (on_total (λ (f : Fault). construct_number f.kind) nat_cmp_total)))

same_choice : (r : Ordering) (f g : Fault) → chosen r f g ≡ picked r f g
same_choice Less f g = refl
same_choice Equal f g = refl
same_choice Greater f g = refl

same_pick : (f g : Fault) → first_of_two f g ≡ pick order order_total f g
unfolding first_of_two
same_pick f g = same_choice (order g f) f g

pub first_of_two-assoc : (f g h : Fault) → first_of_two (first_of_two f g) h ≡ first_of_two f (first_of_two g h)
first_of_two-assoc f g h = ap (λ w. first_of_two w h) (same_pick f g) ∙ same_pick (pick order order_total f g) h
    ∙ pick-assoc order order_total f g h ∙ sym (same_pick f (pick order order_total g h)) ∙ sym (ap (first_of_two f) (same_pick g h))

pub earlier-assoc : (f g h : Option Fault) → earlier (earlier f g) h ≡ earlier f (earlier g h)
earlier-assoc None g h = refl
earlier-assoc (Some f) None h = refl
earlier-assoc (Some f) (Some g) None = refl
earlier-assoc (Some f) (Some g) (Some h) = ap Some (first_of_two-assoc f g h)

pub earlier-none : (f : Option Fault) → earlier f None ≡ f
earlier-none None = refl
earlier-none (Some f) = refl

pub first_fault-append : (fs gs : List Fault) → first_fault (fs ++ gs) ≡ earlier (first_fault fs) (first_fault gs)
first_fault-append [] gs = refl
first_fault-append (f ∷ fs) gs = ap (earlier (Some f)) (first_fault-append fs gs) ∙ sym (earlier-assoc (Some f) (first_fault fs) (first_fault gs))

-- what a walk has found after two parts
pub joins : (found : Option Fault) (fs gs : List Fault) → earlier found (first_fault (fs ++ gs)) ≡ earlier (earlier found (first_fault fs)) (first_fault gs)
joins found fs gs = ap (earlier found) (first_fault-append fs gs) ∙ sym (earlier-assoc found (first_fault fs) (first_fault gs))

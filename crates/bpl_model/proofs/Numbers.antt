-- The variables of a procedure, as they are put together, and the test of a module over its parts.
use Rattle.std.proofs.Common.{◌≡◌, ◌∙◌, refl, ap, ℕ, ◌+◌, ◌-◌, ◌≤◌, not, List, [], ◌++◌, map, length, arith}
use Rattle.std.specs.Prelude.{count_by, filter}
use Rattle.std.proofs.lemmas.List.{append_assoc, length-append, length-map}
use Rattle.std.proofs.lemmas.List.Filters.{length-filter_both}
use Rattle.std.proofs.lemmas.List.Sums.{length-filter, count_by-le-length}
use Rattle.logic_core.specs.Tree.{Kind}
use Rattle.bpl_model.specs.Module.{Const, Global, Local}
use Rattle.bpl_model.specs.Numbering.{local_sorts}
use Rattle.bpl_model.specs.VariablesView.{variables_from}

six : (a b c d e f : List Kind) → ((((a ++ b) ++ c) ++ d) ++ e) ++ f ≡ a ++ (b ++ (c ++ (d ++ (e ++ f))))
six a b c d e f = append_assoc (((a ++ b) ++ c) ++ d) e f ∙ append_assoc ((a ++ b) ++ c) d (e ++ f) ∙ append_assoc (a ++ b) c (d ++ (e ++ f)) ∙ append_assoc a b (c ++ (d ++ (e ++ f)))

-- no more of them stand for replaced calls than there are variables
pub own_fit : (all own : ℕ) (old new : List Kind) (ls : List Local) → new ≡ old ++ local_sorts ls → all ≡ length new → own ≡ count_by (λ (l : Local). l.own) ls → own ≤ all
own_fit all own old new ls e a o = omega (arith, ap length e, a, o, length-append old (local_sorts ls), length-map ls (λ l. l.sort), count_by-le-length (λ (l : Local). l.own) ls)

-- the sorts after each step, with their number, and how many of the locals stand for replaced calls
pub built : (cs : List Const) (gs : List Global) (is os ls : List Local) (s0 s1 s2 s3 s4 s5 s6 all : List Kind) (n1 n2 n3 n4 n5 n6 own : ℕ)
    → s0 ≡ [] → s1 ≡ s0 ++ map (λ c. c.sort) cs → n1 ≡ length s1 → s2 ≡ s1 ++ map (λ g. g.sort) gs → n2 ≡ length s2 → s3 ≡ s2 ++ map (λ g. g.sort) gs → n3 ≡ length s3
    → s4 ≡ s3 ++ local_sorts is → n4 ≡ length s4 → s5 ≡ s4 ++ local_sorts os → n5 ≡ length s5 → s6 ≡ s5 ++ local_sorts ls → n6 ≡ length s6
    → all ≡ s6 → own ≡ count_by (λ (l : Local). l.own) ls
    → record { sorts = all; first_global = n1; first_entry = n2; first_in = n3; first_out = n4; first_local = n5; first_own = n6 - own } ≡ variables_from cs gs is os ls
built cs gs is os ls s0 s1 s2 s3 s4 s5 s6 all n1 n2 n3 n4 n5 n6 own e0 e1 k1 e2 k2 e3 k3 e4 k4 e5 k5 e6 k6 a o =
    let c = map (λ (c : Const). c.sort) cs in
    let g = map (λ (g : Global). g.sort) gs in
    let f1 : s1 ≡ c = e1 ∙ ap (λ r. r ++ c) e0 in
    let lg = length-map gs (λ (g : Global). g.sort) in
    let l1 : n1 ≡ length cs = omega (arith, k1, ap length f1, length-map cs (λ (c : Const). c.sort)) in
    let l2 : n2 ≡ length cs + length gs = omega (arith, k2, ap length e2, length-append s1 g, k1, l1, lg) in
    let l3 : n3 ≡ length cs + length gs + length gs = omega (arith, k3, ap length e3, length-append s2 g, k2, l2, lg) in
    let l4 : n4 ≡ length cs + length gs + length gs + length is = omega (arith, k4, ap length e4, length-append s3 (local_sorts is), k3, l3, length-map is (λ (l : Local). l.sort)) in
    let l5 : n5 ≡ length cs + length gs + length gs + length is + length os = omega (arith, k5, ap length e5, length-append s4 (local_sorts os), k4, l4, length-map os (λ (l : Local). l.sort)) in
    let l6 : n6 ≡ length cs + length gs + length gs + length is + length os + length ls = omega (arith, k6, ap length e6, length-append s5 (local_sorts ls), k5, l5, length-map ls (λ (l : Local). l.sort)) in
    let w : n6 - own ≡ length cs + length gs + length gs + length is + length os + length (filter (λ (l : Local). not l.own) ls) =
    omega (arith, l6, o, length-filter (λ (l : Local). l.own) ls, length-filter_both (λ (l : Local). l.own) (λ (l : Local). not l.own) (λ (l : Local). refl) ls) in
    let t : all ≡ c ++ (g ++ (g ++ (local_sorts is ++ (local_sorts os ++ local_sorts ls)))) =
    a ∙ e6 ∙ ap (λ r. r ++ local_sorts ls) (e5 ∙ ap (λ r. r ++ local_sorts os) (e4 ∙ ap (λ r. r ++ local_sorts is) (e3 ∙ ap (λ r. r ++ g) (e2 ∙ ap (λ r. r ++ g) f1))))
    ∙ six c g g (local_sorts is) (local_sorts os) (local_sorts ls) in
    λ i. record { sorts = t i; first_global = l1 i; first_entry = l2 i; first_in = l3 i; first_out = l4 i; first_local = l5 i; first_own = w i }

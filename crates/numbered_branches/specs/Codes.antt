-- The codes of facts, marks, steps and branches of numbers, by which proofs tell them apart.
use Rattle.std.specs.Prelude.{◌≡◌, ℕ, List, refl}
use Rattle.std.specs.Coded.{Coded, code_by, coded×, coded_list, coded_ℕ, coded_ℤ}
use Rattle.std.proofs.Common.{ap, arith}
use base.Stored.{Gv, gnum, gcons}
use Rattle.logic_core.specs.Tree.{Kind}
use Rattle.logic_core.specs.Codes.{coded_kind, tag}
use Rattle.numbered_branches.specs.Branches.{NumberedFact, NumberedMark, NumberedBranch, NumberedStep, splits, instantiates, names, replaces, unfolds, reads_back, differs, combines, tightens, NumberedMade}

abbrev pub coded_fact : Coded NumberedFact
coded_fact = code_by (ℕ × ℕ) (coded× coded_ℕ coded_ℕ) (λ f. (f.term, f.number)) (λ p. record { term = p.0; number = p.1 }) (λ _. refl)

abbrev pub coded_mark : Coded NumberedMark
coded_mark = code_by (ℕ × ℕ) (coded× coded_ℕ coded_ℕ) (λ m. (m.fact, m.tuple)) (λ p. record { fact = p.0; tuple = p.1 }) (λ _. refl)

abbrev pub coded_branch : Coded NumberedBranch
coded_branch = code_by (List NumberedFact × (List ℕ × (List NumberedMark × (List Kind × ℕ)))) (coded× (coded_list coded_fact) (coded× (coded_list coded_ℕ) (coded× (coded_list coded_mark) (coded× (coded_list coded_kind) coded_ℕ))))
    (λ b. (b.facts, (b.calls, (b.marks, (b.vars, b.next))))) (λ p. record { facts = p.0; calls = (p.1).0; marks = ((p.1).1).0; vars = (((p.1).1).1).0; next = (((p.1).1).1).1 }) (λ _. refl)

abbrev pub coded_numbers : Coded (List ℕ)
coded_numbers = coded_list coded_ℕ

abbrev pub step_code : NumberedStep → Gv
step_code (splits f) = gcons (gnum 0) (gnum f)
step_code (instantiates f is) = gcons (gnum 1) (gcons (gnum f) (coded_numbers.code is))
step_code (names f) = gcons (gnum 2) (gnum f)
step_code (replaces f g i) = gcons (gnum 3) (gcons (gnum f) (gcons (gnum g) (gnum i)))
step_code (unfolds f i) = gcons (gnum 4) (gcons (gnum f) (gnum i))
step_code (reads_back f i) = gcons (gnum 5) (gcons (gnum f) (gnum i))
step_code (differs f) = gcons (gnum 6) (gnum f)
step_code (combines f p g q) = gcons (gnum 7) (gcons (gnum f) (gcons (coded_ℤ.code p) (gcons (gnum g) (coded_ℤ.code q))))
step_code (tightens f) = gcons (gnum 8) (gnum f)

pub step_inj : (x y : NumberedStep) → step_code x ≡ step_code y → x ≡ y
step_inj (splits f) (splits g) e = cc
step_inj (instantiates f is) (instantiates g js) e = cc (coded_numbers.inj is js (cc))
step_inj (names f) (names g) e = cc
step_inj (replaces f g i) (replaces h k j) e = cc
step_inj (unfolds f i) (unfolds g j) e = cc
step_inj (reads_back f i) (reads_back g j) e = cc
step_inj (differs f) (differs g) e = cc
step_inj (combines f p g q) (combines h r k s) e = cc (coded_ℤ.inj p r (cc), coded_ℤ.inj q s (cc))
step_inj (tightens f) (tightens g) e = cc
step_inj x y e = let apart : tag (step_code x) ≡ tag (step_code y) = ap tag e in absurd (omega arith)

abbrev pub coded_step : Coded NumberedStep
coded_step = record { code = step_code; inj = step_inj }

abbrev pub coded_made : Coded NumberedMade
coded_made = code_by (NumberedBranch × (List NumberedStep × ℕ)) (coded× coded_branch (coded× (coded_list coded_step) coded_ℕ)) (λ m. (m.branch, (m.steps, m.size))) (λ p. record { branch = p.0; steps = (p.1).0; size = (p.1).1 }) (λ _. refl)

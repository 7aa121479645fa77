-- A fault as it is written, and its line.
use Rattle.std.specs.Prelude.{ℕ, List, ◌++◌, codes, refl}
use Rattle.std.specs.Coded.{Coded, code_by, coded×, coded_list, coded_ℕ}
use Rattle.bv_base.specs.declared.place.Place.{Place}
use Rattle.bv_base.specs.Place.{place_text}

pub record Written : Type 0 where
  pub kind : List ℕ
  pub decl : List ℕ
  pub place : Place
  pub word : List ℕ

-- its code, by which proofs tell faults apart: that of its parts
abbrev pub coded_written : Coded Written
coded_written = code_by (List ℕ × (List ℕ × (ℕ × (ℕ × List ℕ)))) (coded× (coded_list coded_ℕ) (coded× (coded_list coded_ℕ) (coded× coded_ℕ (coded× coded_ℕ (coded_list coded_ℕ)))))
    (λ w. (w.kind, (w.decl, ((w.place).line, ((w.place).col, w.word))))) (λ p. record { kind = p.0; decl = (p.1).0; place = record { line = ((p.1).1).0; col = (((p.1).1).1).0 }; word = (((p.1).1).1).1 }) (λ _. refl)

abbrev pub fault_line : Written → List ℕ
fault_line w = codes "fault " ++ w.kind ++ codes " " ++ w.decl ++ codes " " ++ place_text w.place ++ codes " " ++ w.word

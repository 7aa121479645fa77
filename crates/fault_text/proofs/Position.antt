-- A fault by names and sorts stands in one of the declarations.
use Rattle.std.proofs.Common.{◌≡◌, ℕ, suc, ◌+◌, ◌<◌, List, [], ◌∷◌, length, Option, Some, None, refl, ap, arith}
use Rattle.bpl_ast.specs.Statement.{Decl}
use Rattle.bpl_scopes.specs.declared.fault.Fault.{Fault}
use Rattle.bpl_scopes.specs.Fault.{first_fault}
use Rattle.bpl_scopes.specs.Scopes.{Table, Counts, table_of, counts_after, no_counts}
use Rattle.bpl_declaration_faults.specs.DeclFaults.{Before, before_with, nothing_before, faults_after, in_decl, first_from, fault_of}

here_or_later : (d : ℕ) (o : Option Fault) (later : Option (ℕ × Fault)) (n : ℕ) (p : ℕ × Fault) → in_decl d o later ≡ Some p
    → (later ≡ Some p → p.0 < d + 1 + n) → p.0 < d + suc n
here_or_later d None later n p h rest = omega (arith, rest h)
here_or_later d (Some f) later n p h rest =
    let same : ◌≡◌ {A = ℕ × Fault} (d, f) p = cc in
    omega (arith, ap (λ (q : ℕ × Fault). q.0) same)

first_within : (d : ℕ) (fss : List (List Fault)) (p : ℕ × Fault) → first_from d fss ≡ Some p → p.0 < d + length fss
first_within d [] p h = absurd (cc)
first_within d (fs ∷ rest) p h = here_or_later d (first_fault fs) (first_from (d + 1) rest) (length rest) p h (λ later. first_within (d + 1) rest p later)

as_many : (t : Table) (c : Counts) (b : Before) (ds : List Decl) → length (faults_after t c b ds) ≡ length ds
as_many t c b [] = refl
as_many t c b (d ∷ ds) = ap suc (as_many t c (before_with b d.body) ds)

pub fault_there : (ds : List Decl) (p : ℕ × Fault) → fault_of ds ≡ Some p → p.0 < length ds
fault_there ds p h =
    omega (
      arith,
      first_within 0 (faults_after (table_of ds) (counts_after no_counts ds) nothing_before ds) p h,
      as_many (table_of ds) (counts_after no_counts ds) nothing_before ds,
    )

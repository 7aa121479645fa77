-- A procedure's declaration without faults has none in its contract.
use Rattle.std.specs.Prelude.{◌≡◌, ◌&&◌, List, [], ◌∷◌, flat_map, Option}
use Rattle.bpl_ast.specs.Place.{Name, Params}
use Rattle.bpl_ast.specs.Statement.{Spec, Signature, Body, procedure}
use Rattle.bpl_scopes.specs.declared.fault.TypeKind.TheVariants.{Twice as twice}
use Rattle.bv_base.specs.Text.{is_among}
use Rattle.bpl_scopes.specs.Fault.{again, if_so}
use Rattle.bpl_scopes.specs.Scopes.{Table, Counts}
use Rattle.bpl_declaration_faults.specs.Variables.{names_in_body}
use Rattle.bpl_declaration_faults.specs.DeclFaults.{Before, signature_faults, parameter_clause_faults, spec_faults, optional_locals, has_body, decl_faults}
use Rattle.bpl_resolve.proofs.HasSort.{first_empty, second_empty}

module _ (t : Table) (c : Counts) where
  pub record ContractFine (g : Signature) (ss : List Spec) : Type 0 where
    pub parameters : parameter_clause_faults t c g ≡ []
    pub specs : flat_map (spec_faults t c g) ss ≡ []

  pub contract_fine : (b : Before) (n : Name) (ps : Option Params) (g : Signature) (ss : List Spec) (body : Option Body) → decl_faults t c b (procedure n ps g ss body) ≡ [] → ContractFine g ss
  contract_fine b n ps g ss body e =
      let r1 = second_empty (again twice b.names (n ∷ [])) _ e in
      let r2 = second_empty (if_so (has_body body && is_among b.bodies n.text) twice n.at) _ r1 in
      let r3 = second_empty (signature_faults t ps g) _ r2 in
      let r4 = second_empty (parameter_clause_faults t c g) _ r3 in
      let r5 = second_empty (again twice [] (names_in_body g (optional_locals body))) _ r4 in
      record { parameters = first_empty _ _ r3; specs = first_empty _ _ r5 }

-- Codes of entries, by which proofs tell them apart.
use Rattle.std.specs.Prelude.{◌≡◌, ℕ, List, Option, refl}
use Rattle.std.specs.Coded.{Coded, code_by, coded×, coded_ℕ, coded_list, coded_option}
use Rattle.std.proofs.Common.{ap, arith}
use base.Stored.{Gv, gnum, gcons}
use Rattle.bpl_ast.specs.Place.{Ty}
use Rattle.bpl_ast.specs.Tree.{Expr}
use Rattle.bpl_ast.specs.Statement.{Signature, Argument}
use Rattle.bpl_ast.specs.Codes.{tag, coded_ty, coded_expr}
use Rattle.bpl_ast.specs.DeclCodes.{coded_signature, coded_argument}
use Rattle.bpl_scopes.specs.Scopes.{Heading, Contract, Entity, a_constant, a_global, a_function, a_synonym, a_procedure, Entry}

abbrev pub coded_heading : Coded Heading
coded_heading = code_by (List Argument × (Ty × Option Expr)) (coded× (coded_list coded_argument) (coded× coded_ty (coded_option coded_expr))) (λ h. (h.ins, (h.result, h.value))) (λ p. record { ins = p.0; result = p.1.0; value = p.1.1 }) (λ _. refl)

abbrev pub coded_contract : Coded Contract
coded_contract = code_by (Signature × List (List ℕ)) (coded× coded_signature (coded_list (coded_list coded_ℕ))) (λ c. (c.signature, c.modified)) (λ p. record { signature = p.0; modified = p.1 }) (λ _. refl)

abbrev pub entity_code : Entity → Gv
entity_code (a_constant a b) = gcons (gnum 0) (gcons (coded_ℕ.code a) (coded_ty.code b))
entity_code (a_global a b) = gcons (gnum 1) (gcons (coded_ℕ.code a) (coded_ty.code b))
entity_code (a_function a) = gcons (gnum 2) (coded_heading.code a)
entity_code (a_synonym a) = gcons (gnum 3) ((coded_option coded_ty).code a)
entity_code (a_procedure a b) = gcons (gnum 4) (gcons (coded_ℕ.code a) (coded_contract.code b))

pub entity_inj : (x y : Entity) → entity_code x ≡ entity_code y → x ≡ y
entity_inj (a_constant a b) (a_constant k l) p = cc (coded_ℕ.inj a k (cc), coded_ty.inj b l (cc))
entity_inj (a_global a b) (a_global k l) p = cc (coded_ℕ.inj a k (cc), coded_ty.inj b l (cc))
entity_inj (a_function a) (a_function k) p = cc (coded_heading.inj a k (cc))
entity_inj (a_synonym a) (a_synonym k) p = cc ((coded_option coded_ty).inj a k (cc))
entity_inj (a_procedure a b) (a_procedure k l) p = cc (coded_ℕ.inj a k (cc), coded_contract.inj b l (cc))
entity_inj x y p = let e : tag (entity_code x) ≡ tag (entity_code y) = ap tag p in absurd (omega arith)

abbrev pub coded_entity : Coded Entity
coded_entity = record { code = entity_code; inj = entity_inj }

abbrev pub coded_entry : Coded Entry
coded_entry = code_by (List ℕ × (ℕ × Entity)) (coded× (coded_list coded_ℕ) (coded× coded_ℕ coded_entity)) (λ e. (e.name, (e.decl, e.entity))) (λ p. record { name = p.0; decl = p.1.0; entity = p.1.1 }) (λ _. refl)

abbrev pub coded_table : Coded (List Entry)
coded_table = coded_list coded_entry

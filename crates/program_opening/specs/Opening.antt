-- What a text is to the commands: a program without a fault, whose module this is, or one with a first fault, as it is written.
use Rattle.std.specs.Prelude.{◌≡◌, ◌⊎◌, ℕ, List, slice_get, codes, Option, Some, None}
use Rattle.bv_base.specs.declared.place.Place.{Place}
use Rattle.bpl_ast.specs.Statement.{Decl}
use Rattle.bpl_grammar.specs.Part.{rule, program as any_program}
use Rattle.bpl_grammar.specs.Fault.{Fault as TextFault, HasFault}
use Rattle.bpl_grammar.specs.Programs.{SpellsProgram}
use Rattle.bpl_scopes.specs.declared.fault.Fault.{Fault}
use Rattle.bpl_scopes.specs.declared.fault.TypeKind.TheVariants.{Sort as wrong_sort}
use Rattle.bpl_declaration_faults.specs.DeclFaults.{fault_of}
use Rattle.user_types.specs.Erased.{erased}
use Rattle.user_types.specs.CarrierFaults.{carrier_fault}
use Rattle.bpl_model.specs.Module.{Module}
use Rattle.bpl_resolve.specs.Elaborate.{module_of}
use Rattle.vc_build.specs.declared.fault.Measure.{Measure}
use Rattle.vc_build.specs.declared.fault.Measure.TheVariants.{Count, Bytes}
use Rattle.vc_build.specs.Large.{program_large}
use Rattle.fault_text.specs.Written.{Written}
use Rattle.fault_text.specs.Words.{no_word}
use Rattle.fault_text.specs.Faults.{fault_in_decl, fault_of_size}
use Rattle.fault_text.specs.WrittenFault.{text_fault, decl_fault}

pub data Opening : Type 0 where
  program : Module → Opening
  refused : Written → Opening

-- ---- declarations by names and types: their module, or their first fault as it is written

pub data Typing : Type 0 where
  typed : Module → Typing
  ill_typed : Written → Typing

-- a place of a declaration at which a user type is taken for another type: the token there is the word
abbrev pub written_carrier : Option Decl → Place → Written
written_carrier None p = record { kind = codes "Carrier"; decl = no_word; place = p; word = no_word }
written_carrier (Some d) p = record (fault_in_decl d wrong_sort p) { kind = codes "Carrier" }

abbrev pub told_carrier : List Decl → ℕ × Place → Written
told_carrier ds p = written_carrier (slice_get ds p.0) p.1

-- the module is that of the erased declarations
abbrev pub typing_by_carriers : List Decl → Option (ℕ × Place) → Typing
typing_by_carriers ds (Some p) = ill_typed (told_carrier ds p)
typing_by_carriers ds None = typed (module_of (erased ds))

abbrev pub typing_by : List Decl → Option (ℕ × Fault) → Typing
typing_by ds (Some p) = ill_typed (decl_fault (erased ds) p)
typing_by ds None = typing_by_carriers ds (carrier_fault ds)

-- the erased declarations' first fault comes before that of carriers
abbrev pub typing : List Decl → Typing
typing ds = typing_by ds (fault_of (erased ds))

-- ---- a program that is too large

abbrev pub measure_word : Measure → List ℕ
measure_word Count = codes "goals"
measure_word Bytes = codes "bytes"

abbrev pub size_fault : Measure → ℕ → Written
size_fault what number = fault_of_size (measure_word what) number

abbrev pub unless_large : Module → Option (Measure × ℕ) → Opening
unless_large m None = program m
unless_large m (Some p) = refused (size_fault p.0 p.1)

abbrev pub within_limits : Typing → Opening
within_limits (typed m) = unless_large m (program_large m)
within_limits (ill_typed w) = refused w

-- names and types come first, and then the limits on goals
abbrev pub opening : List Decl → Opening
opening ds = within_limits (typing ds)

-- ---- what a text is

pub record IsSpelled (text : List ℕ) (o : Opening) : Type 0 where
  pub decls : List Decl
  pub spelled : SpellsProgram text decls
  pub is : o ≡ opening decls

pub record IsFaulty (text : List ℕ) (o : Opening) : Type 0 where
  pub fault : TextFault
  pub there : HasFault (rule any_program) text fault
  pub is : o ≡ refused (text_fault text fault)

-- a text spells declarations, or has a fault
abbrev pub Opens : List ℕ → Opening → Type 0
Opens text o = IsSpelled text o ⊎ IsFaulty text o

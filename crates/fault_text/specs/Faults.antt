-- Faults as they are written: of a text, of a declaration, of a program that is too large.
use Rattle.std.specs.Prelude.{ℕ, List, ◌++◌, codes, decimal}
use Rattle.bv_base.specs.declared.place.Place.{Place}
use Rattle.bv_base.specs.Place.{place_at}
use Rattle.bpl_ast.specs.Statement.{Decl}
use Rattle.bpl_scopes.specs.declared.fault.TypeKind.{TypeKind}
use Rattle.bpl_scopes.specs.declared.fault.TypeKind.TheVariants.{Unbuilt}
use Rattle.fault_text.specs.Kinds.{kind_name, construct_name}
use Rattle.fault_text.specs.Words.{no_word, word_at_byte, word_at_place}
use Rattle.fault_text.specs.Written.{Written}

-- a text's fault of this kind, at this byte
abbrev pub fault_in_text : List ℕ → List ℕ → ℕ → Written
fault_in_text text kind at = record { kind = kind; decl = no_word; place = place_at text 0 at; word = word_at_byte text at }

-- of a construct that isn't built its name is written, and else the token at the place
abbrev pub word_of_kind : List ℕ → TypeKind → Place → List ℕ
word_of_kind source (Unbuilt construct) place = construct_name construct
word_of_kind source other place = word_at_place source place

-- a declaration's fault of this kind, at this place, which counts from the declaration's first byte
abbrev pub fault_in_decl : Decl → TypeKind → Place → Written
fault_in_decl d kind place = record { kind = kind_name kind; decl = d.name; place = place; word = word_of_kind d.source kind place }

-- a program's fault that there is too much of something; it has no place
abbrev pub fault_of_size : List ℕ → ℕ → Written
fault_of_size what number = record { kind = codes "Large"; decl = no_word; place = record { line = 0; col = 0 }; word = what ++ codes " " ++ decimal number }

-- The names of kinds of fault, and of constructs that are not built.
use Rattle.std.specs.Prelude.{ℕ, List, codes}
use Rattle.bpl_scopes.specs.declared.fault.TypeKind.{TypeKind}
use Rattle.bpl_scopes.specs.declared.fault.TypeKind.TheVariants.{Twice, Unknown, Kind, Sort, Arity, NotAssignable, NotModified, TargetTwice, OldHere, QuantifierHere, Trigger, BreakHere, Cycle, Unbuilt, GotoHere, Labels}
use Rattle.bpl_scopes.specs.declared.fault.Construct.{Construct}
use Rattle.bpl_scopes.specs.declared.fault.Construct.TheVariants.{WhereWord, TypeWord, UniqueWord, Uninterpreted, Polymorphic, Domain}

abbrev pub kind_name : TypeKind → List ℕ
kind_name Twice = codes "Twice"
kind_name Unknown = codes "Unknown"
kind_name Kind = codes "Kind"
kind_name Sort = codes "Sort"
kind_name Arity = codes "Arity"
kind_name NotAssignable = codes "NotAssignable"
kind_name NotModified = codes "NotModified"
kind_name TargetTwice = codes "TargetTwice"
kind_name OldHere = codes "OldHere"
kind_name QuantifierHere = codes "QuantifierHere"
kind_name Trigger = codes "Trigger"
kind_name BreakHere = codes "BreakHere"
kind_name Cycle = codes "Cycle"
kind_name (Unbuilt construct) = codes "Unbuilt"
kind_name GotoHere = codes "GotoHere"
kind_name Labels = codes "Labels"

abbrev pub construct_name : Construct → List ℕ
construct_name WhereWord = codes "where"
construct_name TypeWord = codes "type"
construct_name UniqueWord = codes "unique"
construct_name Uninterpreted = codes "uninterpreted"
construct_name Polymorphic = codes "polymorphic"
construct_name Domain = codes "domain"

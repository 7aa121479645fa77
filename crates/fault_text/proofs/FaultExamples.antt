-- The lines of some faults.
use Rattle.std.proofs.Common.{◌≡◌, refl, codes}
use Rattle.std.specs.Fmt.{digits}
use Rattle.bpl_ast.specs.Statement.{DeclBody}
use Rattle.bpl_scopes.specs.declared.fault.TypeKind.TheVariants.{Unknown, Sort, Unbuilt}
use Rattle.bpl_scopes.specs.declared.fault.Construct.TheVariants.{Uninterpreted}
use Rattle.fault_text.specs.Written.{fault_line}
use Rattle.fault_text.specs.Faults.{fault_in_text, fault_in_decl, fault_of_size}

-- no token begins at the byte
a_byte : fault_line (fault_in_text (codes "procedure S() { @ }") (codes "Lex") 16) ≡ codes "fault Lex - 1:17 -"
unfolding digits
a_byte = refl

-- a token that doesn't go on with the text
a_token : fault_line (fault_in_text (codes "axiom 1 <= 2 <= 3;") (codes "Syntax") 13) ≡ codes "fault Syntax - 1:14 <="
unfolding digits
a_token = refl

-- the end of the text, on a second line
the_end : fault_line (fault_in_text (codes "var x:\nint") (codes "Syntax") 10) ≡ codes "fault Syntax - 2:4 -"
unfolding digits
the_end = refl

-- a declaration's faults: at a name, at a literal, and of a construct
a_name : (b : DeclBody) → fault_line (fault_in_decl (record { name = codes "@1"; start = 40; finish = 48; source = codes "axiom y;"; body = b }) Unknown (record { line = 1; col = 7 }))
    ≡ codes "fault Unknown @1 1:7 y"
unfolding digits
a_name b = refl

a_literal : (b : DeclBody) → fault_line (fault_in_decl (record { name = codes "T"; start = 0; finish = 21; source = codes "x;\n  x :=\n  true;"; body = b }) Sort (record { line = 3; col = 3 }))
    ≡ codes "fault Sort T 3:3 true"
unfolding digits
a_literal b = refl

a_construct : (b : DeclBody) → fault_line (fault_in_decl (record { name = codes "g"; start = 0; finish = 24; source = codes "function g(x: int): int;"; body = b }) (Unbuilt Uninterpreted) (record { line = 1; col = 10 }))
    ≡ codes "fault Unbuilt g 1:10 uninterpreted"
unfolding digits
a_construct b = refl

too_many : fault_line (fault_of_size (codes "goals") 65537) ≡ codes "fault Large - 0:0 goals 65537"
unfolding digits
too_many = refl

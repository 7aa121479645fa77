-- Where there is room for one nesting more.
use Rattle.std.specs.Prelude.{◌≡◌, ℕ, zero, suc, ◌-◌, ◌<◌, List}
use Rattle.std.proofs.Common.{refl, ap, arith}
use Rattle.bv_base.specs.declared.place.Place.{Place}
use Rattle.bpl_grammar.specs.Lexeme.{Lexeme}
use Rattle.bpl_grammar.specs.ReadTypes.{type_with, read_type}
use Rattle.bpl_grammar.specs.ReadExpressions.{whole, operand, enclosed, e_with, un_with, inside_with, read_inner, attr_args, attr_inside}
use Rattle.bpl_grammar.specs.ReadStatements.{stmts_with, read_stmts}

less : (room : ℕ) → room ≡ suc room - 1
less room = omega arith

pub room_type : (room : ℕ) (ls : List Lexeme) → 0 < room → read_type room ls ≡ type_with (read_type (room - 1)) ls
room_type zero ls h = absurd (omega arith)
room_type (suc room) ls h = ap (λ r. type_with (read_type r) ls) (less room)

pub room_whole : (room : ℕ) (ls : List Lexeme) → 0 < room → read_inner room whole ls ≡ e_with (room - 1) (read_inner (room - 1)) ls
room_whole zero ls h = absurd (omega arith)
room_whole (suc room) ls h = ap (λ r. e_with r (read_inner r) ls) (less room)

pub room_operand : (room : ℕ) (ls : List Lexeme) → 0 < room → read_inner room operand ls ≡ un_with (room - 1) (read_inner (room - 1)) ls
room_operand zero ls h = absurd (omega arith)
room_operand (suc room) ls h = ap (λ r. un_with r (read_inner r) ls) (less room)

pub room_enclosed : (room : ℕ) (p : Place) (ls : List Lexeme) → 0 < room → read_inner room (enclosed p) ls ≡ inside_with (room - 1) (read_inner (room - 1)) p ls
room_enclosed zero p ls h = absurd (omega arith)
room_enclosed (suc room) p ls h = ap (λ r. inside_with r (read_inner r) p ls) (less room)

pub room_attr : (room : ℕ) (ls : List Lexeme) → 0 < room → attr_inside room (read_inner room) ls ≡ attr_args (read_inner room) ls
room_attr zero ls h = absurd (omega arith)
room_attr (suc room) ls h = refl

pub room_stmts : (room : ℕ) (ls : List Lexeme) → 0 < room → read_stmts room ls ≡ stmts_with (room - 1) (read_stmts (room - 1)) ls
room_stmts zero ls h = absurd (omega arith)
room_stmts (suc room) ls h = ap (λ r. stmts_with r (read_stmts r) ls) (less room)

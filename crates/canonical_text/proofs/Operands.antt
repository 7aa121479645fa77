-- An operand is read where its node is.
use Rattle.std.specs.Prelude.{◌≡◌, ℕ, zero, suc, ◌≤◌, Bool, true, false, List, [], ◌∷◌, ◌++◌, IsTrue, Ok, Option, None}
use Rattle.std.proofs.Common.{refl, ◌∙◌, arith}
use Rattle.bv_base.specs.declared.place.Place.{Place}
use Rattle.bpl_ast.specs.Tree.{Expr, expr, Node, expr_from}
use Rattle.canonical_text.specs.declared.level.Level.{Level}
use Rattle.canonical_text.specs.declared.level.Level.TheVariants.{Equivalence, Atom}
use Rattle.canonical_text.specs.declared.sign.Sign.{Sign}
use Rattle.canonical_text.specs.Parens.{level, is_caught, needs_parens}
use Rattle.canonical_text.specs.Glyph.{opening, closing}
use Rattle.canonical_text.specs.Expression.{operand, node}
use Rattle.bpl_grammar.specs.Lexeme.{Lexeme}
use Rattle.bpl_grammar.specs.ReadExpressions.{read_inner, e_with, inside_with, enclosed_with, atom_with}
use Rattle.canonical_text.specs.Same.{start, bare}
use Rattle.canonical_text.specs.Nestings.{operand_depth, node_depth}
use Rattle.canonical_text.specs.Spelled.{token, Spelled, done, next}
use Rattle.canonical_text.specs.Ahead.{ahead, stops, stops_operand}
use Rattle.canonical_text.proofs.Parts.{split}
use Rattle.canonical_text.proofs.Ranks.{most}
use Rattle.canonical_text.proofs.Levels.{is_barred, ReadsAt, is_unbarred, lower}
use Rattle.canonical_text.proofs.Stopping.{passed, stops_differs, parens_differ, is_plain}

-- reading the canonical text of a node, with a sign behind it that doesn't go on with it
abbrev pub NodeReads : Node → Type 0
NodeReads n = (s : Option Sign) (room : ℕ) (ls us : List Lexeme) → node_depth s n ≤ room → is_caught s n ≡ false → IsTrue (stops (level n) s n) → IsTrue (ahead s us) → Spelled (node s n) ls us → ReadsAt (level n) room ls us (expr start n)

-- and of an operand where a production of a level stands
abbrev pub OperandReads : Expr → Type 0
OperandReads x = (w : Level) (s : Option Sign) (room : ℕ) (ls us : List Lexeme) → operand_depth w s x ≤ room → IsTrue (stops_operand w s x) → IsTrue (ahead s us) → Spelled (operand w s x) ls us → ReadsAt w room ls us x

-- what is read in parentheses
in_parens : (room : ℕ) (p q : Place) (ls us : List Lexeme) (x : Expr) → is_barred ls ≡ false → e_with room (read_inner room) ls ≡ Ok (x, token q (closing ")") ∷ us) → atom_with (suc room) (read_inner (suc room)) (token p (opening "(") ∷ ls) ≡ Ok (expr_from p x, us)
unfolding atom_with enclosed_with inside_with
in_parens room p q ls us x h r =
    let b = is_unbarred ls h in
    rw (b.all, b.any, r) refl

bare_from : (p : Place) (x : Expr) → bare (expr_from p x) ≡ bare x
bare_from p (expr q n) = refl

bare_at : (p : Place) (n : Node) → bare (expr start n) ≡ bare (expr p n)
bare_at p n = refl

-- nothing is caught where no sign follows
uncaught : (n : Node) → is_caught None n ≡ false
uncaught n = refl

module _ (n : Node) (reads : NodeReads n) where
  parens_read : (w : Level) (s : Option Sign) (p : Place) (room : ℕ) (ls us : List Lexeme) → needs_parens w s n ≡ true → suc (node_depth None n) ≤ room → IsTrue (stops_operand w s (expr p n)) → IsTrue (ahead s us)
      → Spelled (opening "(" ∷ (node None n ++ closing ")" ∷ [])) ls us → ReadsAt w room ls us (expr p n)
  parens_read w s p zero ls us e d h k g = absurd (omega arith)
  parens_read w s p (suc room) ls us e d h k (next {ls = rest} q g) =
      let r = split (node None n) (closing ")" ∷ []) g in
      closed q rest r.middle r.first r.second
    where
      closed : (q : Place) (ls ms : List Lexeme) → Spelled (node None n) ls ms → Spelled (closing ")" ∷ []) ms us → ReadsAt w (suc room) (token q (opening "(") ∷ ls) us (expr p n)
      closed q ls ms f (next z done) =
          let inner = lower Equivalence (level n) room ls (token z (closing ")") ∷ us) (expr start n) (omega arith) (λ k a b. passed k None (token z (closing ")") ∷ us) refl tt)
          (reads None room ls (token z (closing ")") ∷ us) (omega arith) (uncaught n) refl refl f) in
          lower w Atom (suc room) _ us (expr p n) (most w) (λ k b c. passed k s us behind (parens_differ w k s p n e h b)) (record {
            value = expr_from q inner.value;
            reads = in_parens room q z ls us inner.value inner.unbarred inner.reads;
            same = bare_from q inner.value ∙ inner.same;
            unsigned = λ b. refl;
            unbarred = refl;
          })
        where
          behind : IsTrue (ahead s us)
          behind = k

  plain_reads : (w : Level) (s : Option Sign) (p : Place) (room : ℕ) (ls us : List Lexeme) → needs_parens w s n ≡ false → node_depth s n ≤ room → IsTrue (stops_operand w s (expr p n)) → IsTrue (ahead s us)
      → Spelled (node s n) ls us → ReadsAt w room ls us (expr p n)
  plain_reads w s p room ls us e d h k g =
      let i = is_plain w s p n e h in
      let r = reads s room ls us d i.uncaught i.halts_there k g in
      lower w (level n) room ls us (expr p n) i.within (λ j a b. passed j s us k (stops_differs w j s n i.halts a b)) (record {
        value = r.value;
        reads = r.reads;
        same = r.same;
        unsigned = r.unsigned;
        unbarred = r.unbarred;
      })

  -- with or without parentheses
  pub operand_from : (p : Place) → OperandReads (expr p n)
  operand_from p w s room ls us d h k g = chosen (needs_parens w s n) refl d g
    where
      chosen : (b : Bool) → needs_parens w s n ≡ b → (elim b [ true ↦ suc (node_depth None n) | false ↦ node_depth s n ]) ≤ room
          → Spelled (elim b [ true ↦ opening "(" ∷ (node None n ++ closing ")" ∷ []) | false ↦ node s n ]) ls us → ReadsAt w room ls us (expr p n)
      chosen true e d g = parens_read w s p room ls us e d h k g
      chosen false e d g = plain_reads w s p room ls us e d h k g

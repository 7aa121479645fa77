use Rattle.std.specs.Prelude.{◌≡◌, ℕ, ◌+◌, ◌-◌, ◌≤◌, List, [], codes, Ok}
use Rattle.std.proofs.Common.{refl, inl, ◌∙◌, arith}
use Rattle.bpl_grammar.specs.Lexeme.{Lexeme}
use Rattle.bpl_grammar.specs.Terminal.{fixed}
use Rattle.bpl_grammar.specs.Reading.{Read, read_as, listed}
use Rattle.bpl_grammar.specs.ReadExpressions.{whole, read_inner, args_with, groups_with}
use Rattle.bpl_grammar.proofs.Found.{read_as_ok}
use Rattle.bpl_grammar.proofs.TypesUnique.{type_one}
use Rattle.bpl_grammar.proofs.ExprsUnique.{whole_one, exprs_one, args_one, groups_one, attrs_one}
use Rattle.bpl_grammar.proofs.Unique.{quiet_head}
use Rattle.bpl_grammar.proofs.laws.trees_are_unique.Goals as goal

total : (room : ℕ) → room ≤ 201 → (201 - room) + room ≡ 201
total room b = omega (arith, b)

inside : (room : ℕ) → room ≤ 200 → (200 - room) + room ≡ 200
inside room b = omega (arith, b)

-- what is read, in the form of the tree
shown : {A B : Type 0} (f : A → B) (read : List Lexeme → Read A) (ls us vs : List Lexeme) (x y : B) → ((z : A) → read ls ≡ Ok (z, vs) → (us ≡ vs) × (x ≡ f z)) → read_as f (read ls) ≡ Ok (y, vs) → (us ≡ vs) × (x ≡ y)
shown f read ls us vs x y same h =
    let r = read_as_ok f (read ls) y vs h in
    let s = same r.value r.reads in
    (s.0, s.1 ∙ r.is)

pub returns : goal.returns
returns c = record {
  types = λ room ls us vs x y w q d h. type_one room ls us vs x y w d h (inl q);
  one = λ room b ls us vs x y w q d h. whole_one room (201 - room) (total room b) ls us vs x y w d h (inl q);
  many = λ room b ls us vs x y w q d h. shown _ (listed (read_inner room whole)) ls us vs x y (λ z g. exprs_one room (201 - room) (total room b) ls us vs x z w d g (inl q)) h;
  arguments = λ room b ls us vs x y w q d h. shown _ (args_with room (read_inner room)) ls us vs x y (λ z g. args_one room (200 - room) (inside room b) ls us vs x z w d g) h;
  groups = λ room b ls us vs x y w q d h. shown _ (groups_with room (read_inner room)) ls us vs x y (λ z g. groups_one room (200 - room) (inside room b) ls us vs x z w d g (inl q)) h;
  attrs = λ room b ls us vs x y w q d h. (attrs_one room (200 - room) (inside room b) ls us vs y w d h (quiet_head (fixed (codes "{")) [] us q), refl);
}

-- Facts with their normal Nots, as the store goes on.
use Rattle.std.proofs.Common.{◌≡◌, refl, sym, ap, subst, ◌∙◌, ℕ, ◌+◌, ◌<◌, false, Option, Some, None, List, [], ◌∷◌, ◌++◌, length, take, get_or, arith}
use Rattle.logic_core.specs.Tree.{Tree}
use Rattle.logic_core.specs.Same.{same_term, is_some_and}
use Rattle.logic_core.specs.Junction.{negated}
use Rattle.proof_core.specs.Close.{is_negation_of}
use Rattle.term_bank.specs.Numbered.{at, Begins}
use Rattle.term_bank.proofs.Numbers.{begins_at, begins_length}
use Rattle.numbered_terms.specs.Stored.{Numbered, Grows}
use Rattle.numbered_facts.specs.Answers.{StandsFor}
use Rattle.numbered_branches.specs.Branches.{NumberedFact, IsFactBelow}
use Rattle.numbered_branches.proofs.Standing.{stand_next}
use Rattle.numbered_logic.specs.declared.closing.Denied.{Denied}
use Rattle.numbered_logic.specs.Denied.{IsDenied, AreDenied}
use Rattle.numbered_logic.proofs.Later.{below_later, at_later, stands_later}

denied_stays : (ts us : List Tree) → Begins ts us → (d : Denied) → IsDenied ts d → IsDenied us d × (d.fact ≡ d.fact)
denied_stays ts us b d h = ((omega (arith, h.0, begins_length ts us b), stands_later ts us d.negation (negated (at ts (d.fact).term)) (negated (at us (d.fact).term)) b (ap negated (sym (begins_at ts us (d.fact).term b h.0))) h.1), refl)

abbrev fact_of : List Tree → Denied → NumberedFact
fact_of ts d = d.fact

pub denied_next : (ts us : List Tree) (ds new : List Denied) (d : Denied) (fs : List NumberedFact) (i : ℕ) (f : NumberedFact) → Begins ts us → i < length fs → f ≡ get_or fs i f → AreDenied ts ds (take i fs) → IsDenied us d × (d.fact ≡ f) → new ≡ ds ++ d ∷ []
    → AreDenied us new (take (i + 1) fs)
denied_next ts us ds new d fs i f b l e h p q = stand_next IsDenied fact_of denied_stays ts us ds new d fs i f b l e h p.0 p.1 q

-- a fact with what is found for it
pub denied_made : (n m : Numbered) → Grows n m → (f : NumberedFact) (i : ℕ) (o : Option ℕ) (d : Denied) → IsFactBelow (length n.terms) f → i ≡ f.term → StandsFor m.terms o (negated (at n.terms i)) → d ≡ record { fact = f; negation = o } → IsDenied m.terms d × (d.fact ≡ f)
denied_made n m g f i o d low e h is = rw is ((below_later n m f.term g low, subst (λ t. StandsFor m.terms o (negated t)) (ap (at n.terms) e ∙ sym (at_later n m f.term g low)) h), refl)

-- whether one fact is the normal Not of another
pub negation_there : (ts : List Tree) (o : Option ℕ) (n : ℕ) (g f : Tree) → StandsFor ts o (negated f) → o ≡ Some n → is_negation_of g f ≡ same_term (at ts n) g
negation_there ts (Some i) n g f h e = ap (λ p. is_some_and p (λ u. same_term u g)) h.1 ∙ ap (λ j. same_term (at ts j) g) (let one : i ≡ n = cc in one)
negation_there ts None n g f h e = absurd (cc)

pub negation_lacking : (ts : List Tree) (o : Option ℕ) (g f : Tree) → StandsFor ts o (negated f) → o ≡ None → is_negation_of g f ≡ false
negation_lacking ts (Some i) g f h e = absurd (cc)
negation_lacking ts None g f h e = ap (λ p. is_some_and p (λ u. same_term u g)) h

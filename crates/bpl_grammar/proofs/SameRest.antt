-- Where a part is read exactly, whatever follows, what it takes is what is read.
use Rattle.std.specs.Prelude.{◌≡◌, ℕ, suc, Bool, true, false, List, [], ◌∷◌, length, IsTrue, Ok, Option, Some, None, ◌⊎◌}
use Rattle.std.proofs.Common.{refl, inl, inr, ap, sym, ◌∙◌, arith}
use Rattle.bpl_lex.specs.Token.{Kind, id, number, text, sign, word}
use Rattle.bpl_grammar.specs.Lexeme.{Lexeme, same_kind, is_kind}
use Rattle.bpl_grammar.specs.Part.{Part, some, nothing, ◌⨟◌}
use Rattle.bpl_grammar.specs.Spelling.{Takes, Spells, of_kind, empty, both}
use Rattle.bpl_grammar.specs.Derivative.{left_of}
use Rattle.bpl_grammar.specs.Depth.{depth_of}
use Rattle.bpl_grammar.specs.Judge.{Narrow, syntax, fails, ending, going, too_deep, too_wide, judge}
use Rattle.bpl_grammar.specs.Reads.{sunk}
use Rattle.bpl_grammar.specs.Terminal.{kind}
use Rattle.bpl_grammar.specs.Reading.{Read}
use Rattle.bpl_grammar.specs.Law.{fate}
use Rattle.bpl_grammar.proofs.Sound.{TakesLeft}
use Rattle.bpl_grammar.proofs.Complete.{IsCut, takes_complete}
use Rattle.bpl_grammar.proofs.Decide.{always}
use Rattle.bpl_grammar.proofs.First.{left_spells}
use Rattle.bpl_grammar.proofs.Sunk.{up}
use Rattle.bpl_grammar.proofs.Choices.{judge_stuck}
use Rattle.bpl_grammar.proofs.Decisions.{took}
use Rattle.bpl_grammar.proofs.Fates.{opens_token}
use Rattle.bpl_grammar.proofs.Longest.{same_fault}
use Rattle.bpl_grammar.proofs.Suffixes.{same_suffix, takes_suffix}

-- a part of as many tokens, of these kinds
abbrev kinds : List Lexeme → Part
kinds [] = nothing
kinds (l ∷ ls) = some l.kind ⨟ kinds ls

own_kind : (k : Kind) → IsTrue (same_kind k k)
own_kind id = refl
own_kind number = refl
own_kind text = refl
own_kind sign = refl
own_kind word = refl

spells_kinds : (ls : List Lexeme) → Spells (kinds ls) ls
spells_kinds [] = empty
spells_kinds (l ∷ ls) = both (of_kind (own_kind l.kind)) (spells_kinds ls)

-- as many tokens, or a fault of syntax
abbrev Counted : List Lexeme → List Lexeme → Type 0
Counted us vs = (length vs ≡ length us) ⊎ ((ws : List Lexeme) × (judge (kinds us) vs ≡ fails syntax ws))

counted : (us vs : List Lexeme) → Narrow vs → Counted us vs
counted [] [] n = inl refl
counted [] (v ∷ vs) n = inr (v ∷ vs, refl)
counted (u ∷ us) [] n = inr ([], refl)
counted (u ∷ us) (v ∷ vs) n = by_kind (is_kind u.kind v) refl (counted us vs n.1)
  where
    by_kind : (b : Bool) → is_kind u.kind v ≡ b → Counted us vs → Counted (u ∷ us) (v ∷ vs)
    by_kind true e (inl h) = inl (ap suc h)
    by_kind true e (inr h) = inr (h.0, took 0 (kind u.kind) (kinds us) v vs (omega arith) e n.0 ∙ h.1)
    by_kind false e h = inr (v ∷ vs, judge_stuck 0 (some u.kind) (kinds us) (v ∷ vs) refl (opens_token (kind u.kind) (v ∷ vs) ∙ e))

-- what spells a part has no fault of syntax
pub spelled_well : (ls : List Lexeme) (p : Part) (us : List Lexeme) → Spells p ls → judge p ls ≡ fails syntax us → ⊥
spelled_well [] p us d h = cut (takes_complete 12 d (always p))
  where
    cut : IsCut 12 p [] [] → ⊥
    cut (inl x) = absurd (cc (ap ending x.1, h))
    cut (inr x) = absurd (cc (x.2))
spelled_well (l ∷ ls) p us d h = gone (left_of l p) (too_deep (depth_of l p)) (too_wide l) h (left_spells l p ls d) (λ q. spelled_well ls q us)
  where
    gone : (o : Option Part) (e w : Bool) → going o e w (λ q. judge q ls) (l ∷ ls) ≡ fails syntax us → TakesLeft o ls [] → ((q : Part) → Spells q ls → judge q ls ≡ fails syntax us → ⊥) → ⊥
    gone None e w g t ih = absurd t
    gone (Some q) true w g t ih = absurd (cc ((same_fault _ syntax (l ∷ ls) us g).0))
    gone (Some q) false true g t ih = absurd (cc ((same_fault _ syntax (l ∷ ls) us g).0))
    gone (Some q) false false g t ih = ih q t g

pub same_rest : {A : Type 0} (n : ℕ) (p q : Part) (read : List Lexeme → Read A) (ls us vs : List Lexeme) (y : A) → ((k : Part) → judge (sunk n p ⨟ k) ls ≡ fate k (read ls)) → Takes p ls us → read ls ≡ Ok (y, vs) → Takes q ls vs → Narrow vs → us ≡ vs
same_rest n p q read ls us vs y law d h e w = decided (counted us vs w)
  where
    decided : Counted us vs → us ≡ vs
    decided (inl s) = same_suffix (takes_suffix d) (takes_suffix e) (sym s)
    decided (inr s) = absurd (spelled_well ls (sunk n p ⨟ kinds us) s.0 (both (up n d) (spells_kinds us)) (law (kinds us) ∙ (ap (fate (kinds us)) h ∙ s.1)))

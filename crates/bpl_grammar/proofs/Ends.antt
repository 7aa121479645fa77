-- What is left of lexemes is their end.
use Rattle.std.specs.Prelude.{◌≡◌, ℕ, ◌+◌, ◌-◌, ◌≤◌, false, List, [], ◌∷◌, drop, length, Ok, Err}
use Rattle.std.proofs.Common.{refl, ap, ◌∙◌, arith}
use Rattle.std.proofs.lemmas.List.{length-drop, drop-drop}
use Rattle.bpl_lex.specs.Token.{Kind, id, number, text, sign, word}
use Rattle.bpl_grammar.specs.Lexeme.{Lexeme, same_kind}
use Rattle.bpl_grammar.specs.Part.{Part, some, nothing, ◌⨟◌}
use Rattle.bpl_grammar.specs.Judge.{Mark, syntax, fails, judge}
use Rattle.bpl_grammar.specs.Reading.{Read}
use Rattle.bpl_grammar.specs.Terminal.{kind}
use Rattle.bpl_grammar.specs.Law.{fate}
use Rattle.bpl_grammar.proofs.Fates.{unseen}
use Rattle.bpl_grammar.proofs.Faults.{fails_at_the_fault}

-- us are the last of all
pub record IsEnd {A : Type 0} (all us : List A) : Type 0 where
  pub at : ℕ
  pub within : at ≤ length all
  pub is : us ≡ drop at all

pub end_shorter : {A : Type 0} (all us : List A) → IsEnd all us → length us ≤ length all
end_shorter all us e = omega (arith, ap length e.is, length-drop e.at all)

-- an end is known by its length
pub end_length : {A : Type 0} (all us : List A) → IsEnd all us → us ≡ drop (length all - length us) all
end_length all us e =
    let same : e.at ≡ length all - length us = omega (arith, ap length e.is, length-drop e.at all, e.within) in
    e.is ∙ ap (λ i. drop i all) same

pub end_of_end : {A : Type 0} (all us vs : List A) → IsEnd all us → IsEnd us vs → IsEnd all vs
end_of_end all us vs e f =
    let both : vs ≡ drop f.at (drop e.at all) = f.is ∙ ap (λ xs. drop f.at xs) e.is in
    record { at = e.at + f.at; within = omega (arith, e.within, f.within, ap length e.is, length-drop e.at all); is = both ∙ drop-drop f.at e.at all }

-- a fault stands in what was judged
pub fails_end : (p : Part) (ls : List Lexeme) (m : Mark) (us : List Lexeme) → judge p ls ≡ fails m us → IsEnd ls us
fails_end p ls m us h =
    let f = (fails_at_the_fault p ls m us).0 h in
    record { at = f.0; within = f.1.within; is = f.2 }

-- a kind of token that isn't next

abbrev pub other : Kind → Kind
other text = number
other k = text

kind_at : List Lexeme → Kind
kind_at [] = text
kind_at (t ∷ ts) = t.kind

not_other : (k : Kind) → same_kind (other k) k ≡ false
not_other id = refl
not_other number = refl
not_other text = refl
not_other sign = refl
not_other word = refl

unlike : List Lexeme → Part
unlike us = some (other (kind_at us)) ⨟ nothing

unlike_stops : (us : List Lexeme) → judge (unlike us) us ≡ fails syntax us
unfolding unlike kind_at
unlike_stops [] = unseen 0 (kind (other text)) nothing [] refl
unlike_stops (t ∷ ts) = unseen 0 (kind (other t.kind)) nothing (t ∷ ts) (not_other t.kind)

-- what is read exactly, whatever kind of token follows, leaves an end
pub read_end : {A : Type 0} (p : Part) (o : Read A) (ls us : List Lexeme) (x : A) → ((k : Kind) → judge (p ⨟ (some (other k) ⨟ nothing)) ls ≡ fate (some (other k) ⨟ nothing) o) → o ≡ Ok (x, us) → IsEnd ls us
unfolding unlike
read_end p o ls us x law h = fails_end (p ⨟ unlike us) ls syntax us (law (kind_at us) ∙ (ap (fate (unlike us)) h ∙ unlike_stops us))

pub stuck_end : {A : Type 0} (p : Part) (o : Read A) (ls us : List Lexeme) (m : Mark) → ((k : Kind) → judge (p ⨟ (some (other k) ⨟ nothing)) ls ≡ fate (some (other k) ⨟ nothing) o) → o ≡ Err (m, us) → IsEnd ls us
stuck_end p o ls us m law h = fails_end (p ⨟ (some (other id) ⨟ nothing)) ls m us (law id ∙ ap (fate (some (other id) ⨟ nothing)) h)

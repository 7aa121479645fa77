-- The lines of a front of the input are the first lines of the input.
use Rattle.std.proofs.Common.{◌≡◌, ◌⊎◌, ◌∙◌, inl, inr, refl, sym, ap, ℕ, Bool, true, false, cond, ◌==◌, List, [], ◌∷◌, ◌++◌, take, drop, Option, Some, None, append-nil, append_assoc}
use Rattle.std.specs.Prelude.{IfSome}
use Rattle.std.proofs.lemmas.List.{take-append-drop}
use Rattle.bv_base.specs.Known.{Takes, IsEnd}
use Rattle.bv_base.specs.Lines.{onto, lines}
use Rattle.line_server.specs.Exchanges.{asked, onto_ended, ended_lines}
use Rattle.line_server.specs.Endings.{AreFirst, AreWhole, AreAll, IsServed}
use Rattle.line_server.proofs.Splits.{asked-append}

-- where a front's lines have ended, they are the first
abbrev BeginWith : List (List ℕ) → List (List ℕ) → Type 0
BeginWith all ls = (more : List (List ℕ)) × (all ≡ ls ++ more)

onto_first : (b : ℕ) (ls : List (List ℕ)) (all : List (List ℕ)) → BeginWith all ls → BeginWith (onto b all) (onto_ended b ls)
onto_first b [] all h = (onto b all, refl)
onto_first b (l ∷ ls) all h = (h.0, ap (onto b) h.1)

ended_by : (f : Bool) (b : ℕ) (ls : List (List ℕ)) (all : List (List ℕ)) → BeginWith all ls → BeginWith (cond f ([] ∷ all) (onto b all)) (cond f ([] ∷ ls) (onto_ended b ls))
ended_by true b ls all h = (h.0, ap (λ xs. [] ∷ xs) h.1)
ended_by false b ls all h = onto_first b ls all h

ended_first : (xs ys : List ℕ) → BeginWith (lines (xs ++ ys)) (ended_lines xs)
ended_first [] ys = (lines ys, refl)
ended_first (b ∷ xs) ys = ended_by (b == 10) b (ended_lines xs) (lines (xs ++ ys)) (ended_first xs ys)

-- of those that are answered
asked_first : (xs ys : List ℕ) (ls : List (List ℕ)) → asked (ended_lines xs) ≡ ls → BeginWith (asked (lines (xs ++ ys))) ls
asked_first xs ys ls is =
    let h = ended_first xs ys in
    (asked h.0, ap asked h.1 ∙ asked-append (ended_lines xs) h.0 ∙ ap (λ l. l ++ asked h.0) is)

-- ---- of what was taken of an input

took : (input taken : List ℕ) (left' : Option (List ℕ)) → Takes (Some input) left' taken → (rest : List ℕ) × (left' ≡ Some rest) × (input ≡ taken ++ rest)
took input taken None takes = absurd (cc)
took input taken (Some rest) takes = (rest, refl, (let e : input ≡ taken ++ rest = cc in e))

pub whole_first : (left left' : Option (List ℕ)) (taken : List ℕ) (ls : List (List ℕ)) → Takes left left' taken → IfSome left (λ _. AreWhole taken left' ls) → AreFirst left ls
whole_first None left' taken ls takes whole = tt
whole_first (Some input) left' taken ls takes whole = by whole
  where
    t : (rest : List ℕ) × (left' ≡ Some rest) × (input ≡ taken ++ rest)
    t = took input taken left' takes

    at_end : (l : Option (List ℕ)) → l ≡ Some t.0 → IsEnd l → t.0 ≡ []
    at_end None e is = absurd (cc)
    at_end (Some known) e is = let same : known ≡ t.0 = cc in sym same ∙ is

    by : AreWhole taken left' ls → AreFirst (Some input) ls
    by (inl ended) = let h = asked_first taken t.0 ls ended in (h.0, ap (λ i. asked (lines i)) t.2 ∙ h.1)
    by (inr all) = ([], ap (λ i. asked (lines i)) (t.2 ∙ ap (λ r. taken ++ r) (at_end left' t.1 all.0) ∙ append-nil taken) ∙ all.1 ∙ sym (append-nil ls))

pub front_first : (left left' : Option (List ℕ)) (n : ℕ) (taken : List ℕ) (ls : List (List ℕ)) → Takes left left' taken → IfSome left (λ _. asked (ended_lines (take n taken)) ≡ ls) → AreFirst left ls
front_first None left' n taken ls takes whole = tt
front_first (Some input) left' n taken ls takes whole =
    let t = took input taken left' takes in
    let h = asked_first (take n taken) (drop n taken ++ t.0) ls whole in
    (h.0, ap (λ i. asked (lines i)) (t.2 ∙ ap (λ xs. xs ++ t.0) (sym (take-append-drop n taken)) ∙ append_assoc (take n taken) (drop n taken) t.0) ∙ h.1)

pub served_first : (quits : Bool) (left left' : Option (List ℕ)) (ls : List (List ℕ)) → IsServed quits left left' ls → AreFirst left ls
served_first true left left' ls s = s
served_first false None left' ls s = tt
served_first false (Some input) left' ls s = ([], s.1 ∙ sym (append-nil ls))

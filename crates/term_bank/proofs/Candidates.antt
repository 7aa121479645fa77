-- The numbers of one hash, from the last to the first, when a term is looked for.
use Rattle.std.proofs.Common.{◌≡◌, refl, sym, ap, ◌∙◌, ℕ, zero, suc, ◌<◌, ◌≤◌, true, false, true≢false, List, [], ◌∷◌, map, length, take, get_or, Option, Some, None, min, arith}
use mathlib.Core.Logic.{◌⊎◌, inl, inr}
use Rattle.std.proofs.lemmas.Bool.{cases_lt}
use Rattle.std.proofs.lemmas.List.{length-map, length-take, get_or-take}
use Rattle.logic_core.specs.Tree.{Tree}
use Rattle.logic_core.specs.Same.{same_term}
use Rattle.logic_core.proofs.SameTerm.{same_is_equal, same_as_itself}
use Rattle.term_bank.specs.LastAt.{last_at}
use Rattle.term_bank.specs.Numbered.{at, number_of}
use Rattle.term_bank.specs.Hash.{hash_of}
use Rattle.term_bank.specs.Candidate.{NotBefore, IsCandidate, followers}
use Rattle.term_bank.proofs.Indexed.{IsLast, last_is, no_later}
use Rattle.term_bank.proofs.Numbers.{none_from}

hash_at : (ts : List Tree) (i : ℕ) → i < length ts → get_or (map hash_of ts) i 0 ≡ hash_of (at ts i)
hash_at [] i l = absurd (omega (arith, l))
hash_at (t ∷ ts) zero l = refl
hash_at (t ∷ ts) (suc i) l = hash_at ts i (omega (arith, l))

pub candidate_first : (ts : List Tree) (t : Tree) (hs : List ℕ) (h : ℕ) (o : Option ℕ) → hs ≡ map hash_of ts → h ≡ hash_of t → o ≡ last_at hs h → IsCandidate ts t o
candidate_first ts t hs h o es eh eo = rw (eo, es, eh) (record { here = here; earlier = earlier })
  where
    here : (i : ℕ) → last_at (map hash_of ts) (hash_of t) ≡ Some i → (i < length ts) × (hash_of (at ts i) ≡ hash_of t)
    here i q = let l = last_is (map hash_of ts) (hash_of t) i q in
        let w : i < length ts = omega (arith, l.within, length-map ts hash_of) in (w, sym (hash_at ts i w) ∙ l.here)

    earlier : (j : ℕ) → j < length ts → at ts j ≡ t → NotBefore (last_at (map hash_of ts) (hash_of t)) j
    earlier j w e = no_later (map hash_of ts) (hash_of t) j (omega (arith, w, length-map ts hash_of)) (hash_at ts j w ∙ ap hash_of e)

-- where the candidate isn't it, the one before is the next
pub candidate_next : (ts : List Tree) (t : Tree) (hs : List ℕ) (i : ℕ) (o : Option ℕ) → hs ≡ map hash_of ts → IsCandidate ts t (Some i) → (at ts i ≡ t → ⊥) → o ≡ last_at (take i hs) (get_or hs i 0) → IsCandidate ts t o
candidate_next ts t hs i o es h other eo = rw (eo, es) (record { here = here; earlier = earlier })
  where
    gs : List ℕ
    gs = map hash_of ts

    now : (i < length ts) × (hash_of (at ts i) ≡ hash_of t)
    now = h.here i refl

    lengths : length (take i gs) ≡ i
    lengths = omega (arith, now.0, length-take i gs, length-map ts hash_of)

    here : (k : ℕ) → last_at (take i gs) (get_or gs i 0) ≡ Some k → (k < length ts) × (hash_of (at ts k) ≡ hash_of t)
    here k q = let l = last_is (take i gs) (get_or gs i 0) k q in
        let w : k < i = omega (arith, l.within, lengths) in
        let v : k < length ts = omega (arith, w, now.0) in
        (v, sym (hash_at ts k v) ∙ sym (get_or-take i gs k 0 w) ∙ l.here ∙ hash_at ts i now.0 ∙ now.1)

    before : (j : ℕ) → j < length ts → at ts j ≡ t → (j < i) ⊎ (i ≤ j) → NotBefore (last_at (take i gs) (get_or gs i 0)) j
    before j w e (inl less) = no_later (take i gs) (get_or gs i 0) j (omega (arith, less, lengths))
        (get_or-take i gs j 0 less ∙ hash_at ts j w ∙ ap hash_of e ∙ sym now.1 ∙ sym (hash_at ts i now.0))
    before j w e (inr more) = let q : j ≤ i = h.earlier j w e in let same : i ≡ j = omega (arith, q, more) in absurd (other (ap (at ts) same ∙ e))

    earlier : (j : ℕ) → j < length ts → at ts j ≡ t → NotBefore (last_at (take i gs) (get_or gs i 0)) j
    earlier j w e = before j w e (cases_lt j i)

-- where there is no candidate the term isn't there
pub candidate_none : (ts : List Tree) (t : Tree) → IsCandidate ts t None → number_of ts t ≡ None
candidate_none ts t h = none_from ts t (λ j w e. h.earlier j w e)

-- a term that is the same as that of a number has this number
pub candidate_found : (ts : List Tree) (t u : Tree) (i : ℕ) → number_of ts u ≡ Some i → same_term u t ≡ true → number_of ts t ≡ Some i
candidate_found ts t u i h s = ap (number_of ts) (sym (same_is_equal u t s)) ∙ h

-- fewer and fewer may follow
pub fewer : (ns : List ℕ) (n : ℕ) → followers (last_at ns n) ≤ length ns
fewer ns n = by (last_at ns n) (last_is ns n)
  where
    by : (o : Option ℕ) → ((i : ℕ) → o ≡ Some i → IsLast ns n i) → followers o ≤ length ns
    by None h = omega arith
    by (Some i) h = let l = h i refl in omega (arith, l.within)

pub fewer_before : (hs : List ℕ) (i : ℕ) (o : Option ℕ) → o ≡ last_at (take i hs) (get_or hs i 0) → followers o < followers (Some i)
fewer_before hs i o e = rw e (omega (arith, fewer (take i hs) (get_or hs i 0), length-take i hs))

-- another term is not the same
pub other_term : (t u : Tree) → same_term t u ≡ false → t ≡ u → ⊥
other_term t u h e = true≢false (sym (ap (same_term t) (sym e) ∙ same_as_itself t) ∙ h)

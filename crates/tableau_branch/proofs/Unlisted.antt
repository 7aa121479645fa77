-- A Read or a Call whose hash isn't among those of a term.
use Rattle.std.proofs.Common.{◌≡◌, refl, sym, ap, subst, ◌∙◌, ℕ, ℤ, ◌+◌, ◌<◌, nat_eq, Bool, true, false, not, IsTrue, List, [], ◌∷◌, ◌++◌, length, drop, get_or}
use Rattle.std.specs.List.{list_any, AllByRecursion}
use Rattle.logic_core.specs.Tree.{Tree, read, call, Trees}
use Rattle.logic_core.specs.Subterm.{occurs}
use Rattle.logic_core.specs.View.{parts_of}
use Rattle.logic_core.proofs.FirstOccurrences.{eq_same}
use Rattle.logic_core.proofs.Mentioned.{all_right}
use Rattle.term_bank.specs.Hash.{mixed, number_hash, hash_of, hash_of_parts}
use Rattle.tableau_branch.specs.Applications.{applications, applications_of_each}
use Rattle.tableau_branch.proofs.HeldApplications.{held}
use Rattle.tableau_branch.proofs.Lists.{drop_item}
use Rattle.tableau_branch.proofs.Unmentioned.{others}

-- the hash of one more part of a sum
pub parts_next : (ps : List (ℤ × Tree)) (i h g : ℕ) (p : ℤ × Tree) (all : ℕ) → i < length ps → p ≡ get_or ps i p → hash_of_parts h (parts_of (drop i ps)) ≡ all
    → g ≡ mixed (mixed h (number_hash p.0)) (hash_of p.1) → hash_of_parts g (parts_of (drop (i + 1) ps)) ≡ all
parts_next ps i h g p all l e v q = ap (λ k. hash_of_parts k (parts_of (drop (i + 1) ps))) q ∙ ap (λ xs. hash_of_parts h (parts_of xs)) (sym (drop_item ps i p l e)) ∙ v

last_of : (P : ℕ → Type 0) (xs : List ℕ) (h : ℕ) → AllByRecursion P (xs ++ h ∷ []) → P h
last_of P xs h have = (all_right P xs (h ∷ []) have).0

-- such a term doesn't occur in it
pub unlisted : (t u : Tree) (xs : List ℕ) → applications t ≡ xs ++ hash_of t ∷ [] → list_any (λ w. nat_eq w (hash_of t)) (applications u) ≡ false → occurs t u ≡ false
unlisted t u xs ends h = at_answer (occurs t u) refl
  where
    at_answer : (b : Bool) → occurs t u ≡ b → b ≡ false
    at_answer false e = refl
    at_answer true e =
        let all = held (λ w. nat_eq w (hash_of t) ≡ false) t u e (others (hash_of t) (applications u) h) in
        let other = last_of (λ w. nat_eq w (hash_of t) ≡ false) xs (hash_of t) (subst (λ ns. AllByRecursion (λ w. nat_eq w (hash_of t) ≡ false) ns) ends all) in
        let same = eq_same (hash_of t) in absurd (cc)

lacking_at : (b : Bool) (h : ℕ) (t u : Tree) (hs xs : List ℕ) → applications t ≡ xs ++ hash_of t ∷ [] → b ≡ list_any (λ w. nat_eq w h) hs → hs ≡ applications u → h ≡ hash_of t → IsTrue (not b) → occurs t u ≡ false
lacking_at true h t u hs xs ends e of_u of_t is = absurd (cc)
lacking_at false h t u hs xs ends e of_u of_t is = unlisted t u xs ends (ap (λ k. list_any (λ w. nat_eq w k) (applications u)) (sym of_t) ∙ ap (λ ns. list_any (λ w. nat_eq w h) ns) (sym of_u) ∙ sym e)

-- as a test tells it of a Read and of a Call
pub lacking_read : (b : Bool) (h : ℕ) (x y t u : Tree) (hs : List ℕ) → b ≡ list_any (λ w. nat_eq w h) hs → hs ≡ applications u → h ≡ hash_of t → t ≡ read x y → IsTrue (not b) → occurs t u ≡ false
lacking_read b h x y t u hs e of_u of_t is n = ap (λ s. occurs s u) is ∙ lacking_at b h (read x y) u hs (applications x ++ applications y) refl e of_u (of_t ∙ ap hash_of is) n

pub lacking_call : (b : Bool) (h f : ℕ) (ts : Trees) (t u : Tree) (hs : List ℕ) → b ≡ list_any (λ w. nat_eq w h) hs → hs ≡ applications u → h ≡ hash_of t → t ≡ call f ts → IsTrue (not b) → occurs t u ≡ false
lacking_call b h f ts t u hs e of_u of_t is n = ap (λ s. occurs s u) is ∙ lacking_at b h (call f ts) u hs (applications_of_each ts) refl e of_u (of_t ∙ ap hash_of is) n

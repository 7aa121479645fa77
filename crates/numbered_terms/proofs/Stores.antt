-- One more node in a store, and the number of a node.
use Rattle.std.proofs.Common.{◌≡◌, refl, sym, ap, subst, ◌∙◌, ℕ, zero, suc, ◌+◌, ◌<◌, ◌≤◌, Bool, true, false, true≢false, cond, List, [], ◌∷◌, ◌++◌, map, length, get_or, slice_index_or, Option, Some, None, option_map, arith}
use mathlib.Core.Logic.{◌⊎◌, inl, inr}
use Rattle.std.specs.List.{AllByRecursion}
use Rattle.std.proofs.lemmas.Bool.{cases_lt}
use Rattle.std.proofs.lemmas.List.{map-append, length-map, length_push, get_or_append_left, get_or_push}
use Rattle.logic_core.specs.Tree.{Tree, truth}
use Rattle.logic_core.specs.Same.{same_term}
use Rattle.logic_core.proofs.SameTerm.{same_as_itself}
use Rattle.term_bank.specs.declared.node.Node.{Node}
use Rattle.term_bank.specs.Numbered.{at, number_of, Begins, IsNumber}
use Rattle.term_bank.specs.Node.{tree_over, numbers_in}
use Rattle.term_bank.specs.Table.{IsNodeAt}
use Rattle.term_bank.specs.Hash.{hash_of}
use Rattle.term_bank.specs.Candidate.{IsCandidate}
use Rattle.term_bank.proofs.Numbers.{number_is, none_from, number_front, number_push, begins_at}
use Rattle.term_bank.proofs.Candidates.{candidate_found, candidate_none}
use Rattle.term_bank.proofs.Nodes.{node_kept, same_tree}
use Rattle.numbered_terms.specs.Stored.{terms_from, shape, AreStored}
use Rattle.numbered_terms.proofs.Shapes.{one_node, one_term}
use Rattle.numbered_terms.specs.Store.{terms_of, shapes, IsStore}

length_from : (ts : List Tree) (ns : List Node) → length (terms_from ts ns) ≡ length ts + length ns
length_from ts [] = omega arith
length_from ts (n ∷ ns) = omega (arith, length_from (ts ++ tree_over (at ts) n ∷ []) ns, length_push ts (tree_over (at ts) n))

pub length_terms : (ns : List Node) → length (terms_of ns) ≡ length ns
length_terms ns = omega (arith, length_from [] ns)

push_from : (ts : List Tree) (ns : List Node) (m : Node) → terms_from ts (ns ++ m ∷ []) ≡ terms_from ts ns ++ tree_over (at (terms_from ts ns)) m ∷ []
push_from ts [] m = refl
push_from ts (n ∷ ns) m = push_from (ts ++ tree_over (at ts) n ∷ []) ns m

pub terms_push : (ns : List Node) (m : Node) → terms_of (ns ++ m ∷ []) ≡ terms_of ns ++ tree_over (at (terms_of ns)) m ∷ []
terms_push ns m = push_from [] ns m

shape_at : (ns : List Node) (i : ℕ) (d : Node) → i < length ns → at (shapes ns) i ≡ shape (get_or ns i d)
shape_at [] i d l = absurd (omega (arith, l))
shape_at (n ∷ ns) zero d l = refl
shape_at (n ∷ ns) (suc i) d l = shape_at ns i d (omega (arith, l))

-- a term that stands somewhere has a number
stands : (ts : List Tree) (t : Tree) (j : ℕ) → j < length ts → at ts j ≡ t → number_of ts t ≡ None → ⊥
stands [] t j l e h = omega (arith, l)
stands (u ∷ ts) t zero l e h = let same : same_term t u ≡ true = ap (λ x. same_term x u) (sym e) ∙ same_as_itself u in
    let no : Some 0 ≡ None = sym (ap (λ b. cond b (Some 0) (option_map suc (number_of ts t))) same) ∙ h in absurd (cc)
stands (u ∷ ts) t (suc j) l e h = by (same_term t u) (number_of ts t) (stands ts t j (omega (arith, l)) e) h
  where
    by : (b : Bool) (o : Option ℕ) → (o ≡ None → ⊥) → cond b (Some 0) (option_map suc o) ≡ None → ⊥
    by true o r g = absurd (cc)
    by false None r g = r refl
    by false (Some k) r g = absurd (cc)

pub are_stored : (ns : List Node) (hs : List ℕ) → (d : Node) → IsStore ns hs → AreStored (terms_of ns)
are_stored ns hs d h = record {
  built = λ i l. (get_or ns i d, h.built i d (omega (arith, l, length_terms ns)));
  apart = λ i l. h.apart i (omega (arith, l, length_terms ns));
}

wide : (ts : List Tree) (i : ℕ) (xs : List ℕ) → i ≤ length ts → AllByRecursion (λ j. j < i) xs → AllByRecursion (λ j. j < length ts) xs
wide ts i [] l g = tt
wide ts i (x ∷ xs) l g = (omega (arith, l, g.0), wide ts i xs l g.1)

-- a node's number is that of its term
module _ (ns : List Node) (hs : List ℕ) (h : IsStore ns hs) (m : Node) (below : AllByRecursion (λ j. j < length (terms_of ns)) (numbers_in m)) where
  there : (i : ℕ) → number_of (shapes ns) (shape m) ≡ Some i → number_of (terms_of ns) (tree_over (at (terms_of ns)) m) ≡ Some i
  there i e = let n = number_is (shapes ns) (shape m) i e in
      let l : i < length ns = omega (arith, n.0, length-map ns shape) in
      let one : shape (get_or ns i m) ≡ shape m = sym (shape_at ns i m l) ∙ n.1 in
      ap (number_of (terms_of ns)) (sym (one_node (at (terms_of ns)) (get_or ns i m) m one) ∙ (h.built i m l).0) ∙ h.apart i l

  nowhere : number_of (shapes ns) (shape m) ≡ None → (j : ℕ) → j < length (terms_of ns) → at (terms_of ns) j ≡ tree_over (at (terms_of ns)) m → ⊥
  nowhere e j l q = let w : j < length ns = omega (arith, l, length_terms ns) in
      let b = h.built j m w in
      let one : shape (get_or ns j m) ≡ shape m = one_term (terms_of ns) (λ i v. h.apart i (omega (arith, v, length_terms ns))) (get_or ns j m) m (wide (terms_of ns) j (numbers_in (get_or ns j m)) (omega (arith, l)) b.1) below (b.0 ∙ q) in
      stands (shapes ns) (shape m) j (omega (arith, w, length-map ns shape)) (shape_at ns j m w ∙ one) e

  pub node_number : number_of (shapes ns) (shape m) ≡ number_of (terms_of ns) (tree_over (at (terms_of ns)) m)
  node_number = by (number_of (shapes ns) (shape m)) refl
    where
      by : (o : Option ℕ) → number_of (shapes ns) (shape m) ≡ o → o ≡ number_of (terms_of ns) (tree_over (at (terms_of ns)) m)
      by (Some i) e = sym (there i e)
      by None e = sym (none_from (terms_of ns) (tree_over (at (terms_of ns)) m) (nowhere e))

-- of a node in the store
pub shapes_apart : (ns : List Node) (hs : List ℕ) (i : ℕ) (d : Node) → IsStore ns hs → i < length ns → number_of (shapes ns) (shape (get_or ns i d)) ≡ Some i
shapes_apart ns hs i d h l = let b = h.built i d l in
    node_number ns hs h (get_or ns i d) (wide (terms_of ns) i (numbers_in (get_or ns i d)) (omega (arith, l, length_terms ns)) b.1)
    ∙ ap (number_of (terms_of ns)) b.0 ∙ h.apart i l

more_nodes : (ns : List Node) (hs : List ℕ) (m : Node) → IsStore ns hs → AllByRecursion (λ j. j < length (terms_of ns)) (numbers_in m) → number_of (terms_of ns) (tree_over (at (terms_of ns)) m) ≡ None
    → IsStore (ns ++ m ∷ []) (hs ++ hash_of (shape m) ∷ [])
more_nodes ns hs m h lower new = record {
  built = λ i d l. subst (λ us. IsNodeAt us i (slice_index_or (ns ++ m ∷ []) i d)) (sym pushed) (built i d l (cases_lt i (length ns)));
  apart = λ i l. subst (λ us. number_of us (at us i) ≡ Some i) (sym pushed) (apart i l (cases_lt i (length ns)));
  hashed = ap (λ xs. xs ++ hash_of (shape m) ∷ []) h.hashed ∙ sym (map-append hash_of (shapes ns) (shape m ∷ [])) ∙ ap (map hash_of) (sym (map-append shape ns (m ∷ [])));
}
  where
    ts : List Tree
    ts = terms_of ns

    t : Tree
    t = tree_over (at (terms_of ns)) m

    pushed : terms_of (ns ++ m ∷ []) ≡ terms_of ns ++ tree_over (at (terms_of ns)) m ∷ []
    pushed = terms_push ns m

    front : Begins (terms_of ns) (terms_of ns ++ tree_over (at (terms_of ns)) m ∷ [])
    front = (tree_over (at (terms_of ns)) m ∷ [], refl)

    here : (i : ℕ) → length (terms_of ns) ≡ i → at (terms_of ns ++ tree_over (at (terms_of ns)) m ∷ []) i ≡ tree_over (at (terms_of ns)) m
    here i q = get_or_push (terms_of ns) (tree_over (at (terms_of ns)) m) (truth true) i q

    built : (i : ℕ) (d : Node) → i < length (ns ++ m ∷ []) → (i < length ns) ⊎ (length ns ≤ i) → IsNodeAt (terms_of ns ++ tree_over (at (terms_of ns)) m ∷ []) i (slice_index_or (ns ++ m ∷ []) i d)
    built i d l (inl less) = subst (λ (x : Node). IsNodeAt (terms_of ns ++ tree_over (at (terms_of ns)) m ∷ []) i x) (sym (get_or_append_left ns (m ∷ []) d i less))
        (node_kept (terms_of ns) (terms_of ns ++ tree_over (at (terms_of ns)) m ∷ []) i (get_or ns i d) front (omega (arith, less, length_terms ns)) (h.built i d less))
    built i d l (inr more) = let q : length ns ≡ i = omega (arith, l, more, length_push ns m) in
        let r : length (terms_of ns) ≡ i = length_terms ns ∙ q in
        subst (λ (x : Node). IsNodeAt (terms_of ns ++ tree_over (at (terms_of ns)) m ∷ []) i x) (sym (get_or_push ns m d i q)) (
          same_tree (at (terms_of ns ++ tree_over (at (terms_of ns)) m ∷ [])) (at (terms_of ns)) (length (terms_of ns)) (λ j v. begins_at (terms_of ns) (terms_of ns ++ tree_over (at (terms_of ns)) m ∷ []) j front v) m lower ∙ sym (here i r),
          subst (λ k. AllByRecursion (λ j. j < k) (numbers_in m)) r lower,
        )

    apart : (i : ℕ) → i < length (ns ++ m ∷ []) → (i < length ns) ⊎ (length ns ≤ i) → number_of (terms_of ns ++ tree_over (at (terms_of ns)) m ∷ []) (at (terms_of ns ++ tree_over (at (terms_of ns)) m ∷ []) i) ≡ Some i
    apart i l (inl less) = let r : i < length (terms_of ns) = omega (arith, less, length_terms ns) in
        ap (number_of (terms_of ns ++ tree_over (at (terms_of ns)) m ∷ [])) (begins_at (terms_of ns) (terms_of ns ++ tree_over (at (terms_of ns)) m ∷ []) i front r)
        ∙ number_front (terms_of ns) (tree_over (at (terms_of ns)) m ∷ []) (at (terms_of ns) i) i (h.apart i less)
    apart i l (inr more) = let r : length (terms_of ns) ≡ i = omega (arith, l, more, length_push ns m, length_terms ns) in
        ap (number_of (terms_of ns ++ tree_over (at (terms_of ns)) m ∷ [])) (here i r) ∙ number_push (terms_of ns) (tree_over (at (terms_of ns)) m) new ∙ ap Some r

-- the same of a store that is seen so, told by equations
pub next_node : (us : List Tree) (ns ms : List Node) (hs gs : List ℕ) (m : Node) (h : ℕ) → terms_of ns ≡ us → IsStore ns hs → AllByRecursion (λ j. j < length us) (numbers_in m)
    → number_of us (tree_over (at us) m) ≡ None → h ≡ hash_of (shape m) → ms ≡ ns ++ m ∷ [] → gs ≡ hs ++ h ∷ [] → IsStore ms gs
next_node us ns ms hs gs m h v store = subst (λ (xs : List Tree). AllByRecursion (λ j. j < length xs) (numbers_in m) → number_of xs (tree_over (at xs) m) ≡ None → h ≡ hash_of (shape m) → ms ≡ ns ++ m ∷ [] → gs ≡ hs ++ h ∷ [] → IsStore ms gs)
    v (λ lower new eh em eg. rw (em, eg, eh) (more_nodes ns hs m store lower new))

pub next_terms : (us : List Tree) (ns ms : List Node) (m : Node) → terms_of ns ≡ us → ms ≡ ns ++ m ∷ [] → terms_of ms ≡ us ++ tree_over (at us) m ∷ []
next_terms us ns ms m v e = ap terms_of e ∙ terms_push ns m ∙ ap (λ xs. xs ++ tree_over (at xs) m ∷ []) v

-- a new node has the next number
pub made_next : (us vs : List Tree) (t : Tree) (i : ℕ) → number_of us t ≡ None → vs ≡ us ++ t ∷ [] → i ≡ length us → IsNumber vs i t
made_next us vs t i n e l = ap (λ xs. number_of xs t) e ∙ number_push us t n ∙ ap Some (sym l)

-- what a search for a node finds
module _ (us : List Tree) (ns : List Node) (hs : List ℕ) (m : Node) (v : terms_of ns ≡ us) (h : IsStore ns hs) (below : AllByRecursion (λ j. j < length us) (numbers_in m)) where
  number_seen : number_of (shapes ns) (shape m) ≡ number_of us (tree_over (at us) m)
  number_seen = subst (λ (xs : List Tree). AllByRecursion (λ j. j < length xs) (numbers_in m) → number_of (shapes ns) (shape m) ≡ number_of xs (tree_over (at xs) m)) v (λ b. node_number ns hs h m b) below

  pub found_at : (i : ℕ) (n : Node) → i < length ns → n ≡ get_or ns i n → same_term (shape n) (shape m) ≡ true → Some i ≡ number_of us (tree_over (at us) m)
  found_at i n l e s = sym (candidate_found (shapes ns) (shape m) (shape n) i (ap (λ x. number_of (shapes ns) (shape x)) e ∙ shapes_apart ns hs i n h l) s) ∙ number_seen

  pub found_nowhere : IsCandidate (shapes ns) (shape m) None → None ≡ number_of us (tree_over (at us) m)
  found_nowhere g = sym (candidate_none (shapes ns) (shape m) g) ∙ number_seen

pub other_shape : (ns : List Node) (m n : Node) (i : ℕ) → i < length ns → n ≡ get_or ns i n → same_term (shape n) (shape m) ≡ false → at (shapes ns) i ≡ shape m → ⊥
other_shape ns m n i l e f q = true≢false (sym (ap (same_term (shape n)) (sym (ap shape e ∙ sym (shape_at ns i n l) ∙ q)) ∙ same_as_itself (shape n)) ∙ f)

-- what is read of a node
pub node_seen : (us : List Tree) (ns : List Node) (hs : List ℕ) (i : ℕ) (n : Node) → terms_of ns ≡ us → IsStore ns hs → i < length us → n ≡ get_or ns i n → IsNodeAt us i n
node_seen us ns hs i n v h l e = subst (λ (x : Node). IsNodeAt us i x) (sym e) (subst (λ (xs : List Tree). IsNodeAt xs i (get_or ns i n)) v (h.built i n (omega (arith, l, length_terms ns, ap length v))))

pub as_many : (us : List Tree) (ns : List Node) → terms_of ns ≡ us → length ns ≡ length us
as_many us ns v = sym (length_terms ns) ∙ ap length v

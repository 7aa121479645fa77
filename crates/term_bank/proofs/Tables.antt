-- One more entry in a table, and more places.
use Rattle.std.proofs.Common.{◌≡◌, refl, sym, ap, subst, ◌∙◌, ℕ, zero, suc, ◌+◌, ◌<◌, ◌≤◌, true, List, [], ◌∷◌, ◌++◌, map, length, take, drop, take-append-drop, get_or, slice_index_or, Option, Some, None, arith}
use mathlib.Core.Logic.{◌⊎◌, inl, inr}
use Rattle.std.specs.List.{All, AllByRecursion}
use Rattle.std.proofs.lemmas.Bool.{cases_lt}
use Rattle.std.proofs.lemmas.List.{map-append, length-map, length-append, length_push, get_or_append_left, get_or_push, get_or-take, length-take, length-take-le, take-map}
use Rattle.std.proofs.lemmas.List.Elements.{All-head, All-tail, All-push, All-more, All-same, All-take, All-weaker, All-get_or}
use Rattle.logic_core.specs.Tree.{Tree, truth}
use Rattle.term_bank.specs.declared.table.Entry.{Entry}
use Rattle.term_bank.specs.declared.node.Node.{Node}
use Rattle.term_bank.specs.Numbered.{at, number_of, Begins}
use Rattle.term_bank.specs.Node.{tree_over, numbers_in}
use Rattle.term_bank.specs.Hash.{hash_of}
use Rattle.term_bank.specs.Tabled.{Tabled}
use Rattle.term_bank.specs.Table.{terms_at, IsNodeAt, IsTable}
use Rattle.term_bank.proofs.Numbers.{number_front, number_push, number_take, begins_at}
use Rattle.term_bank.proofs.Nodes.{node_kept, node_before, same_tree}

-- the terms of entries stay as places join the end
pub terms_kept : (ps more : List Tree) (es : List Entry) → All (λ (e : Entry). e.place < length ps) es → terms_at (ps ++ more) es ≡ terms_at ps es
terms_kept ps more [] h = refl
terms_kept ps more (e ∷ es) h = λ i. get_or_append_left ps more (truth true) e.place (All-head (λ (d : Entry). d.place < length ps) e es h) i ∷ terms_kept ps more es (All-tail (λ (d : Entry). d.place < length ps) e es h) i

pub more_places : (ps more : List Tree) (es : List Entry) (hs : List ℕ) → IsTable ps es hs → IsTable (ps ++ more) es hs
more_places ps more es hs h = record {
  within = All-weaker (λ (e : Entry). e.place < length ps) (λ (e : Entry). e.place < length (ps ++ more)) (λ e l. omega (arith, l, length-append ps more)) es h.within;
  built = λ i d l. subst (λ ts. IsNodeAt ts i (slice_index_or es i d).node) (sym same) (h.built i d l);
  apart = λ i l. subst (λ ts. number_of ts (at ts i) ≡ Some i) (sym same) (h.apart i l);
  hashed = h.hashed ∙ ap (map hash_of) (sym same);
}
  where
    same : terms_at (ps ++ more) es ≡ terms_at ps es
    same = terms_kept ps more es h.within

pub length_terms : (ps : List Tree) (es : List Entry) → length (terms_at ps es) ≡ length es
length_terms ps es = length-map es (λ (e : Entry). at ps e.place)

-- what is read of an entry
term_at_entry : (ps : List Tree) (es : List Entry) (i : ℕ) (d : Entry) → i < length es → at (terms_at ps es) i ≡ at ps (get_or es i d).place
term_at_entry ps [] i d l = absurd (omega (arith, l))
term_at_entry ps (e ∷ es) zero d l = refl
term_at_entry ps (e ∷ es) (suc i) d l = term_at_entry ps es i d (omega (arith, l))

pub term_at : (ps : List Tree) (es : List Entry) (i : ℕ) (e : Entry) → i < length es → e ≡ get_or es i e → at (terms_at ps es) i ≡ at ps e.place
term_at ps es i e l q = term_at_entry ps es i e l ∙ ap (λ (d : Entry). at ps d.place) (sym q)

pub place_within : (ps : List Tree) (es : List Entry) (hs : List ℕ) (i : ℕ) (e : Entry) → IsTable ps es hs → i < length es → e ≡ get_or es i e → e.place < length ps
place_within ps es hs i e h l q = subst (λ (d : Entry). d.place < length ps) (sym q) (h.within i e l)

pub node_at : (ps : List Tree) (es : List Entry) (hs : List ℕ) (i : ℕ) (e : Entry) → IsTable ps es hs → i < length es → e ≡ get_or es i e → IsNodeAt (terms_at ps es) i e.node
node_at ps es hs i e h l q = subst (λ (d : Entry). IsNodeAt (terms_at ps es) i d.node) (sym q) (h.built i e l)

pub terms_push : (ps : List Tree) (es : List Entry) (e : Entry) → terms_at ps (es ++ e ∷ []) ≡ terms_at ps es ++ at ps e.place ∷ []
terms_push ps es e = map-append (λ (d : Entry). at ps d.place) es (e ∷ [])

pub more_entries : (ps : List Tree) (es : List Entry) (hs : List ℕ) (e : Entry) → IsTable ps es hs → e.place < length ps → tree_over (at (terms_at ps es)) e.node ≡ at ps e.place
    → AllByRecursion (λ j. j < length (terms_at ps es)) (numbers_in e.node) → number_of (terms_at ps es) (at ps e.place) ≡ None
    → IsTable ps (es ++ e ∷ []) (hs ++ hash_of (at ps e.place) ∷ [])
more_entries ps es hs e h w made lower new = record {
  within = All-push (λ (d : Entry). d.place < length ps) es e h.within w;
  built = λ i d l. subst (λ us. IsNodeAt us i (slice_index_or (es ++ e ∷ []) i d).node) (sym pushed) (built i d l (cases_lt i (length es)));
  apart = λ i l. subst (λ us. number_of us (at us i) ≡ Some i) (sym pushed) (apart i l (cases_lt i (length es)));
  hashed = ap (λ xs. xs ++ hash_of t ∷ []) h.hashed ∙ sym (map-append hash_of ts (t ∷ [])) ∙ ap (map hash_of) (sym pushed);
}
  where
    ts : List Tree
    ts = terms_at ps es

    t : Tree
    t = at ps e.place

    pushed : terms_at ps (es ++ e ∷ []) ≡ ts ++ t ∷ []
    pushed = terms_push ps es e

    front : Begins ts (ts ++ t ∷ [])
    front = (t ∷ [], refl)

    here : (i : ℕ) → length ts ≡ i → at (ts ++ t ∷ []) i ≡ t
    here i q = get_or_push ts t (truth true) i q

    built : (i : ℕ) (d : Entry) → i < length (es ++ e ∷ []) → (i < length es) ⊎ (length es ≤ i) → IsNodeAt (ts ++ t ∷ []) i (slice_index_or (es ++ e ∷ []) i d).node
    built i d l (inl less) = subst (λ (x : Entry). IsNodeAt (ts ++ t ∷ []) i x.node) (sym (get_or_append_left es (e ∷ []) d i less))
        (node_kept ts (ts ++ t ∷ []) i (get_or es i d).node front (omega (arith, less, length_terms ps es)) (h.built i d less))
    built i d l (inr more) = let q : length es ≡ i = omega (arith, l, more, length_push es e) in
        let r : length ts ≡ i = length_terms ps es ∙ q in
        subst (λ (x : Entry). IsNodeAt (ts ++ t ∷ []) i x.node) (sym (get_or_push es e d i q)) (
          same_tree (at (ts ++ t ∷ [])) (at ts) (length ts) (λ j v. begins_at ts (ts ++ t ∷ []) j front v) e.node lower ∙ made ∙ sym (here i r),
          subst (λ k. AllByRecursion (λ j. j < k) (numbers_in e.node)) r lower,
        )

    apart : (i : ℕ) → i < length (es ++ e ∷ []) → (i < length es) ⊎ (length es ≤ i) → number_of (ts ++ t ∷ []) (at (ts ++ t ∷ []) i) ≡ Some i
    apart i l (inl less) = let r : i < length ts = omega (arith, less, length_terms ps es) in
        ap (number_of (ts ++ t ∷ [])) (begins_at ts (ts ++ t ∷ []) i front r) ∙ number_front ts (t ∷ []) (at ts i) i (h.apart i less)
    apart i l (inr more) = let r : length ts ≡ i = omega (arith, l, more, length_push es e, length_terms ps es) in
        ap (number_of (ts ++ t ∷ [])) (here i r) ∙ number_push ts t new ∙ ap Some r

-- the same, told by equations
pub next_entry : (ps : List Tree) (es fs : List Entry) (hs gs : List ℕ) (e : Entry) (h : ℕ) → IsTable ps es hs → e.place < length ps → tree_over (at (terms_at ps es)) e.node ≡ at ps e.place
    → AllByRecursion (λ j. j < length (terms_at ps es)) (numbers_in e.node) → number_of (terms_at ps es) (at ps e.place) ≡ None → h ≡ hash_of (at ps e.place)
    → fs ≡ es ++ e ∷ [] → gs ≡ hs ++ h ∷ [] → IsTable ps fs gs
next_entry ps es fs hs gs e h table w made lower new eh ef eg = rw (ef, eg, eh) (more_entries ps es hs e table w made lower new)

pub next_places : (ps qs : List Tree) (es : List Entry) (hs : List ℕ) (t : Tree) → IsTable ps es hs → qs ≡ ps ++ t ∷ [] → IsTable qs es hs
next_places ps qs es hs t h e = rw e (more_places ps (t ∷ []) es hs h)

pub next_terms : (ps qs : List Tree) (es : List Entry) (hs : List ℕ) (t : Tree) → IsTable ps es hs → qs ≡ ps ++ t ∷ [] → terms_at qs es ≡ terms_at ps es
next_terms ps qs es hs t h e = rw e (terms_kept ps (t ∷ []) es h.within)

-- the same of a table that is seen so
pub seen_entry : (d : Tabled) (ps : List Tree) (es fs : List Entry) (hs gs : List ℕ) (e : Entry) (h : ℕ) → record { terms = terms_at ps es; standing = ps } ≡ d → IsTable ps es hs
    → e.place < length d.standing → tree_over (at d.terms) e.node ≡ at d.standing e.place → AllByRecursion (λ j. j < length d.terms) (numbers_in e.node)
    → number_of d.terms (at d.standing e.place) ≡ None → h ≡ hash_of (at d.standing e.place) → fs ≡ es ++ e ∷ [] → gs ≡ hs ++ h ∷ [] → IsTable ps fs gs
seen_entry d ps es fs hs gs e h v table = subst
    (λ (x : Tabled). e.place < length x.standing → tree_over (at x.terms) e.node ≡ at x.standing e.place → AllByRecursion (λ j. j < length x.terms) (numbers_in e.node)
    → number_of x.terms (at x.standing e.place) ≡ None → h ≡ hash_of (at x.standing e.place) → fs ≡ es ++ e ∷ [] → gs ≡ hs ++ h ∷ [] → IsTable ps fs gs)
    v (λ w made lower new eh ef eg. next_entry ps es fs hs gs e h table w made lower new eh ef eg)

-- the first entries stand at places at which all do
pub first_within : (es fs gs : List Entry) (n k : ℕ) → All (λ (e : Entry). e.place < k) es → fs ≡ take n es → gs ≡ fs → All (λ (e : Entry). e.place < k) gs
first_within es fs gs n k h ef eg = All-same (λ (e : Entry). e.place < k) gs (take n es) (eg ∙ ef) (All-take (λ (e : Entry). e.place < k) n es h)

-- places that reach one more entry
pub reached_more : (es : List Entry) (i n k : ℕ) (e : Entry) → i < length es → e ≡ get_or es i e → All (λ (d : Entry). d.place < n) (take i es) → n ≤ k → e.place < k → All (λ (d : Entry). d.place < k) (take (i + 1) es)
reached_more es i n k e l q h le w = All-more (λ (d : Entry). d.place < k) es i e l (All-weaker (λ (d : Entry). d.place < n) (λ (d : Entry). d.place < k) (λ d v. omega (arith, v, le)) (take i es) h) (subst (λ (d : Entry). d.place < k) q w)

-- the first entries, and places that reach theirs
module _ (ps qs : List Tree) (es fs : List Entry) (hs gs : List ℕ) (n m : ℕ) (h : IsTable ps es hs) (ef : fs ≡ take n es) (eg : gs ≡ take n hs) (eq : qs ≡ take m ps) (le : m ≤ length ps) (each : All (λ (e : Entry). e.place < m) fs) where
  reach : All (λ (e : Entry). e.place < length qs) fs
  reach = subst (λ k. All (λ (e : Entry). e.place < k) fs) (sym (ap length eq ∙ length-take-le m ps le)) each

  pub terms_fewer : terms_at qs fs ≡ take n (terms_at ps es)
  terms_fewer = sym (terms_kept qs (drop m ps) fs reach) ∙ ap (λ xs. terms_at xs fs) (ap (λ xs. xs ++ drop m ps) eq ∙ take-append-drop m ps)
      ∙ ap (terms_at ps) ef ∙ sym (take-map (λ (e : Entry). at ps e.place) n es)

  among : (i : ℕ) → i < length fs → (i < n) × (i < length es)
  among i l = let k : length fs ≡ length (take n es) = ap length ef in (omega (arith, l, k, length-take n es), omega (arith, l, k, length-take n es))

  pub fewer_entries : IsTable qs fs gs
  fewer_entries = record {
    within = reach;
    built = λ i d l. let a = among i l in
        subst (λ ts. IsNodeAt ts i (slice_index_or fs i d).node) (sym terms_fewer) (subst (λ (x : Entry). IsNodeAt (take n (terms_at ps es)) i x.node) (sym (ap (λ xs. get_or xs i d) ef ∙ get_or-take n es i d a.0))
        (node_before (terms_at ps es) n i (get_or es i d).node a.0 (h.built i d a.1)));
    apart = λ i l. let a = among i l in
        subst (λ ts. number_of ts (at ts i) ≡ Some i) (sym terms_fewer)
        (ap (number_of (take n (terms_at ps es))) (get_or-take n (terms_at ps es) i (truth true) a.0) ∙ number_take (terms_at ps es) n (at (terms_at ps es) i) i (h.apart i a.1) a.0);
    hashed = eg ∙ ap (take n) h.hashed ∙ take-map hash_of n (terms_at ps es) ∙ ap (map hash_of) (sym terms_fewer);
  }

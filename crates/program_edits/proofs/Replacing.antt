-- Where one declaration takes the place of another.
use Rattle.std.proofs.Common.{◌≡◌, ◌<◌, ◌+◌, ℕ, zero, suc, Bool, true, false, not, cond, ◌||◌, List, [], ◌∷◌, ◌++◌, length, map, filter, Option, Some, None, option_map, Result, Ok, Err, bytes_eq, slice_set, codes, decimal, refl, sym, ap, ◌∙◌, subst, arith}
use Rattle.std.specs.List.{AllByRecursion}
use Rattle.std.proofs.lemmas.List.{append-nil, append_assoc}
use Rattle.std.proofs.lemmas.Cmp.{nat_list_eq_equiv}
use Rattle.std.proofs.lemmas.Slice.Eq.{bytes_eq-Decides}
use Rattle.bpl_ast.specs.Statement.{DeclBody, constant, function, axiom_of, variables, synonym, procedure, implementation, Decl, name_of, axioms_with}
use Rattle.bv_base.specs.Text.{is_among}
use Rattle.bpl_scopes.specs.Positions.{beside, first_at}
use Rattle.request_text.specs.Request.{Put, Request, open_text, edit, status, report, sums, proofs, quit}
use Rattle.program_edits.specs.Edited.{Edited, edited, Texts, is_axiom, is_axiom_name, names, in_place, applied, and_then, put_as, renamed, numbered, after_puts, puts_of, changed, edited_by}
use Rattle.program_edits.specs.Replaced.{is_misnamed, only_place, plain, placed, with_all, all_placed, plain_puts, replaced_by, with_replacements, AreThere}
use Rattle.program_edits.specs.declared.replaced.Replacement.{Replacement}

-- the name stands there alone, and not for what is misnamed
abbrev IsOnlyAt : List ℕ → List Decl → ℕ → Type 0
IsOnlyAt n [] k = ⊥
IsOnlyAt n (d ∷ ds) zero = (bytes_eq n d.name ≡ true) × (is_misnamed d ≡ false) × (is_among (names ds) n ≡ false)
IsOnlyAt n (d ∷ ds) (suc k) = (bytes_eq n d.name ≡ false) × IsOnlyAt n ds k

only_at : (n : List ℕ) (ds : List Decl) (k : ℕ) → only_place n ds ≡ Some k → IsOnlyAt n ds k
only_at n [] k is = absurd (cc)
only_at n (d ∷ ds) k is = by k (bytes_eq n d.name) (is_misnamed d) (is_among (names ds) n) (only_place n ds) refl refl refl (λ j h. only_at n ds j h) is
  where
    by : (k : ℕ) (b a c : Bool) (o : Option ℕ) → bytes_eq n d.name ≡ b → is_misnamed d ≡ a → is_among (names ds) n ≡ c → ((j : ℕ) → o ≡ Some j → IsOnlyAt n ds j)
        → ◌≡◌ {A = Option ℕ} (cond b (cond (a || c) None (Some 0)) (option_map suc o)) (Some k) → IsOnlyAt n (d ∷ ds) k
    by k true true c o p q r h e = absurd (cc)
    by k true false true o p q r h e = absurd (cc)
    by zero true false false o p q r h e = (p, q, r)
    by (suc k) true false false o p q r h e = absurd (cc)
    by k false a c None p q r h e = absurd (cc)
    by zero false a c (Some j) p q r h e = absurd (cc)
    by (suc k) false a c (Some j) p q r h e = let same : j ≡ k = cc in (p, subst (IsOnlyAt n ds) same (h j refl))

is_there : (n : List ℕ) (ds : List Decl) (k : ℕ) → IsOnlyAt n ds k → k < length ds
is_there n [] k h = absurd h
is_there n (d ∷ ds) zero h = omega arith
is_there n (d ∷ ds) (suc k) h = omega (arith, is_there n ds k h.1)

has_name : (n : List ℕ) (ds : List Decl) (k : ℕ) → IsOnlyAt n ds k → is_among (names ds) n ≡ true
has_name n [] k h = absurd h
has_name n (d ∷ ds) zero h = ap (λ b. b || is_among (names ds) n) h.0
has_name n (d ∷ ds) (suc k) h = ap (λ b. b || is_among (names ds) n) h.0 ∙ has_name n ds k h.1

-- ---- what puts leave

neither_first : (a b : Bool) → (a || b) ≡ false → a ≡ false
neither_first true b h = h
neither_first false b h = refl

neither_last : (a b : Bool) → (a || b) ≡ false → b ≡ false
neither_last true b h = absurd (cc)
neither_last false b h = h

first_or_later : (d : Decl) (ds : List Decl) (e : Decl) (b : Bool) → bytes_eq d.name e.name ≡ b → in_place (d ∷ ds) e ≡ cond b d (in_place ds e)
first_or_later d ds e b h = ap (λ c. beside e (d ∷ ds) (cond c (Some 0) (option_map suc (first_at e.name (names ds))))) (nat_list_eq_equiv.symm e.name d.name ∙ h) ∙ by b (first_at e.name (names ds))
  where
    by : (c : Bool) (o : Option ℕ) → beside e (d ∷ ds) (cond c (Some 0) (option_map suc o)) ≡ cond c d (beside e ds o)
    by true o = refl
    by false None = refl
    by false (Some i) = refl

others_stay : (d : Decl) (ds es : List Decl) → is_among (names es) d.name ≡ false → map (in_place (d ∷ ds)) es ≡ map (in_place ds) es
others_stay d ds [] h = refl
others_stay d ds (e ∷ es) h =
    let first = first_or_later d ds e false (neither_first (bytes_eq d.name e.name) (is_among (names es) d.name) h) in
    let rest = others_stay d ds es (neither_last (bytes_eq d.name e.name) (is_among (names es) d.name) h) in
    λ i. first i ∷ rest i

takes_place : (d : Decl) (ds es : List Decl) (k : ℕ) → IsOnlyAt d.name es k → map (in_place (d ∷ ds)) es ≡ slice_set (map (in_place ds) es) k d
takes_place d ds [] k h = absurd h
takes_place d ds (e ∷ es) zero h = λ i. first_or_later d ds e true h.0 i ∷ others_stay d ds es h.2 i
takes_place d ds (e ∷ es) (suc k) h = λ i. first_or_later d ds e false h.0 i ∷ takes_place d ds es k h.1 i

all_kept : (es : List Decl) → filter (λ d. not (is_among [] d.name)) es ≡ es
all_kept [] = refl
all_kept (e ∷ es) = ap (λ xs. e ∷ xs) (all_kept es)

none_put : (es : List Decl) → map (in_place []) es ≡ es
none_put [] = refl
none_put (e ∷ es) = ap (λ xs. e ∷ xs) (none_put es)

-- each replaces the only declaration of its name, and is not misnamed
abbrev Only : List Decl → Replacement → Type 0
Only old r = (is_misnamed r.decl ≡ false) × IsOnlyAt r.decl.name old r.at

abbrev AllOnly : List Decl → List Replacement → Type 0
AllOnly old rs = AllByRecursion (Only old) rs

abbrev decls_of : List Replacement → List Decl
decls_of rs = map (λ (r : Replacement). r.decl) rs

none_new : (old : List Decl) (rs : List Replacement) → AllOnly old rs → filter (λ p. not (is_among (names old) p.name)) (decls_of rs) ≡ []
none_new old [] h = refl
none_new old (r ∷ rs) h =
    ap (λ b. cond (not b) (r.decl ∷ filter (λ p. not (is_among (names old) p.name)) (decls_of rs)) (filter (λ p. not (is_among (names old) p.name)) (decls_of rs))) (has_name r.decl.name old r.at h.0.1)
    ∙ none_new old rs h.1

all_take_place : (old : List Decl) (rs : List Replacement) → AllOnly old rs → map (in_place (decls_of rs)) old ≡ with_replacements old rs
all_take_place old [] h = none_put old
all_take_place old (r ∷ rs) h = takes_place r.decl (decls_of rs) old r.at h.0.1 ∙ ap (λ xs. slice_set xs r.at r.decl) (all_take_place old rs h.1)

all_applied : (old : List Decl) (rs : List Replacement) → AllOnly old rs → applied old (decls_of rs) [] ≡ with_replacements old rs
all_applied old rs h =
    ap (λ xs. map (in_place (decls_of rs)) xs ++ filter (λ p. not (is_among (names old) p.name)) (decls_of rs)) (all_kept old)
    ∙ ap (λ xs. map (in_place (decls_of rs)) old ++ xs) (none_new old rs h)
    ∙ append-nil (map (in_place (decls_of rs)) old) ∙ all_take_place old rs h

-- ---- the numbers of axioms stay

-- an axiom's name is one of axioms, and no other's is
right_kind : (d : Decl) → is_misnamed d ≡ false → is_axiom d.body ≡ is_axiom_name d.name
right_kind d h = by (is_axiom d.body) (is_axiom_name d.name) h
  where
    by : (a n : Bool) → cond a (not n) n ≡ false → a ≡ n
    by true true h = refl
    by true false h = absurd (cc)
    by false true h = absurd (cc)
    by false false h = refl

-- what stands there has this name, and its kind
abbrev StandsAt : List ℕ → List Decl → ℕ → Type 0
StandsAt n [] k = ⊥
StandsAt n (e ∷ es) zero = (n ≡ e.name) × (is_axiom e.body ≡ is_axiom_name n)
StandsAt n (e ∷ es) (suc k) = StandsAt n es k

stands_at : (n : List ℕ) (es : List Decl) (k : ℕ) → IsOnlyAt n es k → StandsAt n es k
stands_at n [] k h = h
stands_at n (e ∷ es) zero h =
    let same : n ≡ e.name = (bytes_eq-Decides n e.name).0 h.0 in
    (same, right_kind e h.1 ∙ ap is_axiom_name (sym same))
stands_at n (e ∷ es) (suc k) h = stands_at n es k h.1

one_name : (n m : List ℕ) (es : List Decl) (k : ℕ) → IsOnlyAt n es k → IsOnlyAt m es k → n ≡ m
one_name n m [] k h g = absurd h
one_name n m (e ∷ es) zero h g = (bytes_eq-Decides n e.name).0 h.0 ∙ sym ((bytes_eq-Decides m e.name).0 g.0)
one_name n m (e ∷ es) (suc k) h g = one_name n m es k h.1 g.1

still_stands : (n : List ℕ) (es : List Decl) (k at : ℕ) (d : Decl) → is_misnamed d ≡ false → (at ≡ k → n ≡ d.name) → StandsAt n es k → StandsAt n (slice_set es at d) k
still_stands n [] k at d kind same h = h
still_stands n (e ∷ es) zero zero d kind same h = (same refl, right_kind d kind ∙ ap is_axiom_name (sym (same refl)))
still_stands n (e ∷ es) zero (suc at) d kind same h = h
still_stands n (e ∷ es) (suc k) zero d kind same h = h
still_stands n (e ∷ es) (suc k) (suc at) d kind same h = still_stands n es k at d kind (λ q. same (ap suc q)) h

stands_after : (n : List ℕ) (old : List Decl) (rs : List Replacement) (k : ℕ) → AllOnly old rs → IsOnlyAt n old k → StandsAt n (with_replacements old rs) k
stands_after n old [] k h p = stands_at n old k p
stands_after n old (r ∷ rs) k h p =
    still_stands n (with_replacements old rs) k r.at r.decl h.0.0 (λ q. one_name n r.decl.name old k p (subst (IsOnlyAt r.decl.name old) q h.0.1)) (stands_after n old rs k h.1 p)

-- by its kind alone
same_count : (k : ℕ) (b : DeclBody) → axioms_with k b ≡ cond (is_axiom b) (suc k) k
same_count k (axiom_of x) = refl
same_count k (constant u ns t) = refl
same_count k (function n ps ins t v) = refl
same_count k (variables gs) = refl
same_count k (synonym n t) = refl
same_count k (procedure n ps s ss v) = refl
same_count k (implementation n ps s v) = refl

axiom_named : (k : ℕ) (b : DeclBody) → is_axiom b ≡ true → name_of k b ≡ codes "@" ++ decimal (suc k)
axiom_named k (axiom_of x) h = refl
axiom_named k (constant u ns t) h = absurd (cc)
axiom_named k (function n ps ins t v) h = absurd (cc)
axiom_named k (variables gs) h = absurd (cc)
axiom_named k (synonym n t) h = absurd (cc)
axiom_named k (procedure n ps s ss v) h = absurd (cc)
axiom_named k (implementation n ps s v) h = absurd (cc)

-- two of one name and kind, of which one has its number
same_name : (k : ℕ) (d e : Decl) → d.name ≡ e.name → is_axiom e.body ≡ is_axiom d.body → renamed k e ≡ e → renamed k d ≡ d
same_name k d e same kind is = by (is_axiom d.body) refl
  where
    by : (a : Bool) → is_axiom d.body ≡ a → cond a (record d { name = name_of k d.body }) d ≡ d
    by false q = refl
    by true q =
        let numbered : record e { name = name_of k e.body } ≡ e = sym (ap (λ b. cond b (record e { name = name_of k e.body }) e) (kind ∙ q)) ∙ is in
        let name : name_of k d.body ≡ d.name = axiom_named k d.body q ∙ sym (axiom_named k e.body (kind ∙ q)) ∙ ap (λ (x : Decl). x.name) numbered ∙ sym same in
        λ i. record d { name = name i }

numbers_stay : (d : Decl) (es : List Decl) (at k : ℕ) → is_misnamed d ≡ false → StandsAt d.name es at → numbered k es ≡ es → numbered k (slice_set es at d) ≡ slice_set es at d
numbers_stay d [] at k kind h are = absurd h
numbers_stay d (e ∷ es) zero k kind h are =
    let alike : is_axiom e.body ≡ is_axiom d.body = h.1 ∙ sym (right_kind d kind) in
    let here : renamed k e ≡ e = cc are in
    let rest : numbered (axioms_with k e.body) es ≡ es = cc are in
    let count : axioms_with k d.body ≡ axioms_with k e.body = same_count k d.body ∙ ap (λ b. cond b (suc k) k) (sym alike) ∙ sym (same_count k e.body) in
    let name = same_name k d e h.0 alike here in
    let others : numbered (axioms_with k d.body) es ≡ es = ap (λ n. numbered n es) count ∙ rest in
    λ i. name i ∷ others i
numbers_stay d (e ∷ es) (suc at) k kind h are =
    let here : renamed k e ≡ e = cc are in
    let rest : numbered (axioms_with k e.body) es ≡ es = cc are in
    let others = numbers_stay d es at (axioms_with k e.body) kind h rest in
    λ i. here i ∷ others i

all_numbered : (old : List Decl) (rs : List Replacement) → AllOnly old rs → numbered 0 old ≡ old → numbered 0 (with_replacements old rs) ≡ with_replacements old rs
all_numbered old [] h are = are
all_numbered old (r ∷ rs) h are =
    numbers_stay r.decl (with_replacements old rs) r.at 0 h.0.0 (stands_after r.decl.name old rs r.at h.1 h.0.1) (all_numbered old rs h.1 are)

-- ---- all of it

all_there : (old : List Decl) (rs : List Replacement) → AllOnly old rs → AreThere old rs
all_there old [] h = tt
all_there old (r ∷ rs) h = (is_there r.decl.name old r.at h.0.1, all_there old rs h.1)

all_changed : (s : Texts) (old : List Decl) (ps : List Put) (rs : List Replacement) → numbered 0 old ≡ old → puts_of s ps ≡ Ok (decls_of rs) → AllOnly old rs → changed s old ps [] ≡ edited (with_replacements old rs)
all_changed s old ps rs are is h =
    ap (λ r. after_puts old r []) is
    ∙ ap (λ xs. edited (numbered 0 xs)) (all_applied old rs h)
    ∙ ap edited (all_numbered old rs h are)

-- one put, and its place
abbrev IsPlaced : List Decl → Result Decl Edited → Replacement → Type 0
IsPlaced old p r = (p ≡ Ok r.decl) × Only old r

one_placed : (old : List Decl) (p : Result Decl Edited) (r : Replacement) → placed old (plain p) ≡ Some r → IsPlaced old p r
one_placed old (Err e) r is = absurd (cc)
one_placed old (Ok d) r is = by_kind (is_misnamed d) refl is
  where
    by_place : is_misnamed d ≡ false → (o : Option ℕ) → only_place d.name old ≡ o → ◌≡◌ {A = Option Replacement} (option_map (λ k. record { at = k; decl = d }) o) (Some r) → IsPlaced old (Ok d) r
    by_place kind None q e = absurd (cc)
    by_place kind (Some k) q e =
        let same : ◌≡◌ {A = Replacement} (record { at = k; decl = d }) r = cc in
        subst (λ (x : Replacement). IsPlaced old (Ok d) x) same (refl, (kind, only_at d.name old k q))

    by_kind : (b : Bool) → is_misnamed d ≡ b → placed old (cond b None (Some d)) ≡ Some r → IsPlaced old (Ok d) r
    by_kind true kind e = absurd (cc)
    by_kind false kind e = by_place kind (only_place d.name old) refl e

puts_placed : (s : Texts) (old : List Decl) (ps : List Put) (rs : List Replacement) → all_placed old (plain_puts s ps) ≡ Some rs → (puts_of s ps ≡ Ok (decls_of rs)) × AllOnly old rs
puts_placed s old [] rs is = let none : [] ≡ rs = cc in subst (λ (xs : List Replacement). (puts_of s [] ≡ Ok (decls_of xs)) × AllOnly old xs) none (refl, tt)
puts_placed s old (p ∷ ps) rs is = by (placed old (plain (put_as p (s p.text)))) refl (all_placed old (plain_puts s ps)) (λ qs f. puts_placed s old ps qs f) is
  where
    by : (o : Option Replacement) → placed old (plain (put_as p (s p.text))) ≡ o → (os : Option (List Replacement)) → ((qs : List Replacement) → os ≡ Some qs → (puts_of s ps ≡ Ok (decls_of qs)) × AllOnly old qs)
        → with_all o os ≡ Some rs → (puts_of s (p ∷ ps) ≡ Ok (decls_of rs)) × AllOnly old rs
    by None e os f h = absurd (cc)
    by (Some r) e None f h = absurd (cc)
    by (Some r) e (Some qs) f h =
        let same : r ∷ qs ≡ rs = cc in
        let one = one_placed old (put_as p (s p.text)) r e in
        let rest = f qs refl in
        subst (λ (xs : List Replacement). (puts_of s (p ∷ ps) ≡ Ok (decls_of xs)) × AllOnly old xs) same ((λ i. and_then (one.0 i) (rest.0 i)), (one.1, rest.1))

-- the request makes this of the declarations by what each text spells
abbrev Makes : Texts → List Decl → Request → List Replacement → Type 0
Makes s old r rs = AreThere old rs × (edited_by s old r ≡ Some (edited (with_replacements old rs)))

pub makes : (s : Texts) (old : List Decl) (r : Request) (rs : List Replacement) → numbered 0 old ≡ old → replaced_by s old r ≡ Some rs → Makes s old r rs
makes s old (edit ps []) rs are is =
    let puts = puts_placed s old ps rs is in
    (all_there old rs puts.1, ap Some (all_changed s old ps rs are puts.0 puts.1))
makes s old (edit ps (n ∷ ns)) rs are is = absurd (cc)
makes s old (open_text text) rs are is = absurd (cc)
makes s old status rs are is = absurd (cc)
makes s old report rs are is = absurd (cc)
makes s old sums rs are is = absurd (cc)
makes s old proofs rs are is = absurd (cc)
makes s old quit rs are is = absurd (cc)

-- ---- puts in a list

-- behind those that have been found
abbrev pub behind : List Replacement → Option (List Replacement) → Option (List Replacement)
behind found o = option_map (λ rs. found ++ rs) o

pub none_behind : (o : Option (List Replacement)) → behind [] o ≡ o
none_behind None = refl
none_behind (Some rs) = refl

pub one_more : (found : List Replacement) (r : Replacement) (o : Option (List Replacement)) → behind found (with_all (Some r) o) ≡ behind (found ++ r ∷ []) o
one_more found r None = refl
one_more found r (Some rs) = ap Some (sym (append_assoc found (r ∷ []) rs))

-- ---- the place, behind those that have been looked at

pub place_begins : (o : Option ℕ) → option_map (λ k. 0 + k) o ≡ o
place_begins None = refl
place_begins (Some k) = ap Some (omega arith)

pub place_found : (n : List ℕ) (at : ℕ) (d : Decl) (ds : List Decl) → bytes_eq n d.name ≡ true → cond (is_misnamed d || is_among (names ds) n) None (Some at) ≡ option_map (λ k. at + k) (only_place n (d ∷ ds))
place_found n at d ds is = by (is_misnamed d || is_among (names ds) n) ∙ sym (ap (λ b. option_map (λ k. at + k) (cond b (cond (is_misnamed d || is_among (names ds) n) None (Some 0)) (option_map suc (only_place n ds)))) is)
  where
    by : (c : Bool) → ◌≡◌ {A = Option ℕ} (cond c None (Some at)) (option_map (λ k. at + k) (cond c None (Some 0)))
    by true = refl
    by false = ap Some (omega arith)

pub place_behind : (n : List ℕ) (at : ℕ) (d : Decl) (ds : List Decl) → bytes_eq n d.name ≡ false → option_map (λ k. at + k) (only_place n (d ∷ ds)) ≡ option_map (λ k. at + 1 + k) (only_place n ds)
place_behind n at d ds is = ap (λ b. option_map (λ k. at + k) (cond b (cond (is_misnamed d || is_among (names ds) n) None (Some 0)) (option_map suc (only_place n ds)))) is ∙ by (only_place n ds)
  where
    by : (o : Option ℕ) → option_map (λ k. at + k) (option_map suc o) ≡ option_map (λ k. at + 1 + k) o
    by None = refl
    by (Some k) = ap Some (omega arith)

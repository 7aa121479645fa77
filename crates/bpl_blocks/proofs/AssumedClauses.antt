-- One more clause that is assumed.
use Rattle.std.specs.Prelude.{◌≡◌, refl, ℕ, suc, ◌+◌, ◌<◌, ◌≤◌, Bool, true, false, cond, List, [], ◌∷◌, ◌++◌, map, filter, filter_map, length, Option, Some, None, option_to_list}
use Rattle.std.specs.List.{cons_option}
use Rattle.std.proofs.Common.{arith, sym, ap, ◌∙◌, append_assoc, get_or, drop, drop-cons}
use Rattle.std.proofs.lemmas.List.{append-nil, drop_all}
use Rattle.logic_core.specs.Tree.{Tree}
use Rattle.flow_core.specs.declared.command.Command.{Command}
use Rattle.bpl_blocks.specs.Blocks.{assume_all}
use lib.ListN.{replicate}

pub next_is : {A : Type 0} (xs : List A) (i : ℕ) (x : A) → i < length xs → x ≡ get_or xs i x → drop i xs ≡ x ∷ drop (i + 1) xs
next_is xs i x lt is = let next : suc i ≡ i + 1 = omega arith in drop-cons xs i x lt ∙ (λ j. sym is j ∷ drop (next j) xs)

first_assumed : (o : Option Tree) (Es : List Tree) (cs : List Command) → cs ++ assume_all (cons_option o Es) ≡ (cs ++ assume_all (option_to_list o)) ++ assume_all Es
first_assumed None Es cs = ap (λ ds. ds ++ assume_all Es) (sym (append-nil cs))
first_assumed (Some E) Es cs = sym (append_assoc cs (assume_all (E ∷ [])) (assume_all Es))

-- the clause of the next
pub assumed_more : {A : Type 0} (h : A → Option Tree) (xs : List A) (i : ℕ) (x : A) (cs : List Command) → i < length xs → x ≡ get_or xs i x
    → cs ++ assume_all (filter_map h (drop i xs)) ≡ (cs ++ assume_all (option_to_list (h x))) ++ assume_all (filter_map h (drop (i + 1) xs))
assumed_more h xs i x cs lt is = ap (λ ys. cs ++ assume_all (filter_map h ys)) (next_is xs i x lt is) ∙ first_assumed (h x) (filter_map h (drop (i + 1) xs)) cs

-- that of the next number
pub assumed_at : (h : ℕ → Option Tree) (vs : List ℕ) (k : ℕ) (cs : List Command) → k < length vs
    → cs ++ assume_all (filter_map h (drop k vs)) ≡ (cs ++ assume_all (option_to_list (h (get_or vs k 0)))) ++ assume_all (filter_map h (drop (k + 1) vs))
assumed_at h vs k cs lt =
    let next : suc k ≡ k + 1 = omega arith in
    ap (λ ys. cs ++ assume_all (filter_map h ys)) (drop-cons vs k 0 lt ∙ (λ j. get_or vs k 0 ∷ drop (next j) vs)) ∙ first_assumed (h (get_or vs k 0)) (filter_map h (drop (k + 1) vs)) cs

-- the same of the next that passes a test, or of none
pub assumed_more_of : {A : Type 0} (t : A → Bool) (h : A → Option Tree) (xs : List A) (i : ℕ) (x : A) (cs : List Command) → i < length xs → x ≡ get_or xs i x
    → cs ++ assume_all (filter_map h (filter t (drop i xs))) ≡ (cs ++ assume_all (cond (t x) (option_to_list (h x)) [])) ++ assume_all (filter_map h (filter t (drop (i + 1) xs)))
assumed_more_of {A} t h xs i x cs lt is = ap (λ ys. cs ++ assume_all (filter_map h (filter t ys))) (next_is xs i x lt is) ∙ by (t x)
  where
    by : (b : Bool) → cs ++ assume_all (filter_map h (cond b (x ∷ filter t (drop (i + 1) xs)) (filter t (drop (i + 1) xs)))) ≡ (cs ++ assume_all (cond b (option_to_list (h x)) [])) ++ assume_all (filter_map h (filter t (drop (i + 1) xs)))
    by true = first_assumed (h x) (filter_map h (filter t (drop (i + 1) xs))) cs
    by false = ap (λ ds. ds ++ assume_all (filter_map h (filter t (drop (i + 1) xs)))) (sym (append-nil cs))

-- one more behind what stands so far
pub behind_more : {A B : Type 0} (f : List A → List B) (xs : List A) (i : ℕ) (x : A) (cs ds : List B) → i < length xs → x ≡ get_or xs i x → f (x ∷ drop (i + 1) xs) ≡ ds ++ f (drop (i + 1) xs)
    → cs ++ f (drop i xs) ≡ (cs ++ ds) ++ f (drop (i + 1) xs)
behind_more f xs i x cs ds lt is e = ap (λ ys. cs ++ f ys) (next_is xs i x lt is) ∙ (ap (λ ys. cs ++ ys) e ∙ sym (append_assoc cs ds (f (drop (i + 1) xs))))

-- none ahead
pub behind_all : {A B : Type 0} (f : List A → List B) (xs : List A) (i : ℕ) (cs ds : List B) → length xs ≤ i → f [] ≡ [] → cs ++ f (drop i xs) ≡ ds → cs ≡ ds
behind_all f xs i cs ds past none same = sym (append-nil cs) ∙ (ap (λ ys. cs ++ ys) (sym none) ∙ (ap (λ ys. cs ++ f ys) (sym (drop_all i xs past)) ∙ same))

pub none_for_each : {A B : Type 0} (none : Option B) (xs : List A) → map (λ (x : A). none) xs ≡ replicate (length xs) none
none_for_each none [] = refl
none_for_each none (x ∷ xs) = ap (λ ys. none ∷ ys) (none_for_each none xs)

pub six : {A : Type 0} (a b c d e f : List A) → ((((a ++ b) ++ c) ++ d) ++ e) ++ f ≡ a ++ (b ++ (c ++ (d ++ (e ++ f))))
six a b c d e f = append_assoc (((a ++ b) ++ c) ++ d) e f ∙ (append_assoc ((a ++ b) ++ c) d (e ++ f) ∙ (append_assoc (a ++ b) c (d ++ (e ++ f)) ∙ append_assoc a b (c ++ (d ++ (e ++ f)))))

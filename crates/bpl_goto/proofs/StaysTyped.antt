-- With its gotos removed a typed module whose gotos go forward stays typed: around each new break stands the wrapper that it leaves.
use Rattle.std.specs.Prelude.{◌≡◌, refl, ◌⊎◌, ℕ, Bool, true, false, cond, ◌||◌, IsTrue, List, [], ◌∷◌, ◌++◌, map, fold, filter, Option, Some, None, option_map, bytes_eq}
use Rattle.std.specs.List.{AllByRecursion}
use Rattle.std.proofs.lemmas.List.{append_assoc, map-append}
use Rattle.std.proofs.lemmas.List.Elements.{filter-append}
use Rattle.std.proofs.lemmas.Option.{slice_get-map}
use Rattle.std.proofs.lemmas.Slice.Eq.{bytes_eq-Decides}
use mathlib.Core.Path.{subst, ◌∙◌}
use mathlib.Core.Logic.{inl, inr}
use Rattle.bv_base.specs.declared.place.Place.{Place}
use Rattle.bpl_model.specs.Module.{Name, Stmt, assert, assume, havoc, assign, call, if_else, while, break, return, goto, labelled, Stmts, no_stmts, stmt, labels_of, is_scope, Proc, Module}
use Rattle.bpl_model.specs.Typed.{IsTyped, AreTyped, IsTypedProc, IsBody}
use Rattle.bpl_model.specs.Cut.{append, one}
use Rattle.bv_base.specs.Text.{is_among}
use Rattle.bpl_goto.specs.Labels.{list_labels, named_in, named_within, labels_within, longest}
use Rattle.bpl_goto.specs.Forward.{GoesForward, GoForward, BodyGoesForward}
use Rattle.bpl_goto.specs.Removed.{wrapper, wrapped, wrapped_for, choice, stmt_without, list_without, body_without, removed, remove_gotos}
use Rattle.bpl_goto.specs.Kept.{RemoveGotosStaysTyped}

-- the name is among them
abbrev pub Has : Name → List Name → Type 0
Has l ls = is_among ls l ≡ true

abbrev pub Sub : List Name → List Name → Type 0
Sub A B = (l : Name) → Has l A → Has l B

pub has_left : (l : Name) (xs ys : List Name) → Has l xs → Has l (xs ++ ys)
has_left l [] ys h = let c : false ≡ true = h in absurd cc
has_left l (x ∷ xs) ys h = at_first (bytes_eq l x) h (has_left l xs ys)
  where
    at_first : (b : Bool) → (b || is_among xs l) ≡ true → (Has l xs → Has l (xs ++ ys)) → (b || is_among (xs ++ ys) l) ≡ true
    at_first true h f = refl
    at_first false h f = f h

pub has_right : (l : Name) (xs ys : List Name) → Has l ys → Has l (xs ++ ys)
has_right l [] ys h = h
has_right l (x ∷ xs) ys h = at_first (bytes_eq l x) (has_right l xs ys h)
  where
    at_first : (b : Bool) → Has l (xs ++ ys) → (b || is_among (xs ++ ys) l) ≡ true
    at_first true h = refl
    at_first false h = h

pub has_one : (l : Name) (xs ys : List Name) → Has l (xs ++ ys) → Has l xs ⊎ Has l ys
has_one l [] ys h = inr h
has_one l (x ∷ xs) ys h = at_first (bytes_eq l x) h (has_one l xs ys)
  where
    at_first : (b : Bool) → (b || is_among (xs ++ ys) l) ≡ true → (Has l (xs ++ ys) → Has l xs ⊎ Has l ys) → ((b || is_among xs l) ≡ true) ⊎ Has l ys
    at_first true h f = inl refl
    at_first false h f = f h

pub has_itself : (l : Name) (ls : List Name) → Has l (l ∷ ls)
has_itself l ls = λ j. (bytes_eq-Decides l l).1 refl j || is_among ls l

pub each_has : (ls named : List Name) → Sub ls named → AllByRecursion (λ l. Has l named) ls
each_has [] named f = tt
each_has (l ∷ ls) named f = (f l (has_itself l ls), each_has ls named (λ k h. f k (has_right k (l ∷ []) ls h)))

sub_append : (new A B : List Name) → Sub A B → Sub (new ++ A) (new ++ B)
sub_append new A B f l h = elim (has_one l new A h) [ inl a ↦ has_left l new B a | inr b ↦ has_right l new B (f l b) ]

-- labels that stand around where the first test is true stand around where the second is
sub_scope : (a b : Bool) → (a ≡ true → b ≡ true) → (new A B : List Name) → Sub A B → Sub (cond a (new ++ A) A) (cond b (new ++ B) B)
sub_scope true true e new A B f = sub_append new A B f
sub_scope true false e new A B f = let c : false ≡ true = e refl in absurd cc
sub_scope false true e new A B f = λ l h. has_right l new B (f l h)
sub_scope false false e new A B f = f

module _ (m : Module) (p : Proc) where
  mutual
    weaker : (s : Stmt) (inside : Bool) (A B : List Name) → Sub A B → IsTyped m p inside A s → IsTyped m p inside B s
    weaker (assert mark E) inside A B f h = h
    weaker (assume at E) inside A B f h = h
    weaker (havoc at xs) inside A B f h = h
    weaker (assign at ps) inside A B f h = h
    weaker (call at q es xs) inside A B f h = h
    weaker (if_else at has_else g ss ts) inside A B f h = (h.0, weaker_list ss inside A B f h.1, weaker_list ts inside A B f h.2)
    weaker (while at g is ss) inside A B f h = (h.0, h.1, weaker_list ss true A B f h.2)
    weaker (break at None) inside A B f h = h
    weaker (break at (Some l)) inside A B f h = f l h
    weaker (return at) inside A B f h = h
    weaker (goto at ls) inside A B f h = h
    weaker (labelled new s) inside A B f h = weaker s inside (cond (is_scope s) (new ++ A) A) (cond (is_scope s) (new ++ B) B) (sub_scope (is_scope s) (is_scope s) (λ e. e) new A B f) h

    weaker_list : (ss : Stmts) (inside : Bool) (A B : List Name) → Sub A B → AreTyped m p inside A ss → AreTyped m p inside B ss
    weaker_list no_stmts inside A B f h = h
    weaker_list (stmt s ss) inside A B f h = (weaker s inside A B f h.0, weaker_list ss inside A B f h.1)

  typed_append : (ss ts : Stmts) (inside : Bool) (A : List Name) → AreTyped m p inside A ss → AreTyped m p inside A ts → AreTyped m p inside A (append ss ts)
  typed_append no_stmts ts inside A h k = k
  typed_append (stmt s ss) ts inside A h k = (h.0, typed_append ss ts inside A h.1 k)

module _ (m : Module) (p : Proc) (named : List Name) (n : ℕ) where
  abbrev W : Name → Name
  W l = wrapper named n l

  abbrev wraps : List Name → List Name
  wraps ls = map W (filter (is_among named) ls)

  in_wraps : (ls : List Name) (l : Name) → Has l ls → Has l named → Has (W l) (wraps ls)
  in_wraps [] l h k = let c : false ≡ true = h in absurd cc
  in_wraps (x ∷ xs) l h k = elim (has_one l (x ∷ []) xs h) [
    | inl a ↦ at_test (is_among named x) (first a) (elim (has_one l (x ∷ []) [] a) [ inl c ↦ second c | inr c ↦ second a ])
    | inr b ↦ later (is_among named x) (in_wraps xs l b k)
  ]
    where
      same : Has l (x ∷ []) → l ≡ x
      same a = (bytes_eq-Decides l x).0 (elim (one_of (bytes_eq l x) a) [ inl e ↦ e | inr e ↦ e ])
        where
          one_of : (b : Bool) → (b || false) ≡ true → (b ≡ true) ⊎ (b ≡ true)
          one_of true e = inl refl
          one_of false e = inr e

      first : Has l (x ∷ []) → Has x named
      first a = subst (λ (y : Name). Has y named) (same a) k

      second : Has l (x ∷ []) → bytes_eq (W l) (W x) ≡ true
      second a = (bytes_eq-Decides (W l) (W x)).1 (λ j. W (same a j))

      at_test : (b : Bool) → b ≡ true → bytes_eq (W l) (W x) ≡ true → Has (W l) (map W (cond b (x ∷ filter (is_among named) xs) (filter (is_among named) xs)))
      at_test true e s = λ j. s j || is_among (wraps xs) (W l)
      at_test false e s = let c : false ≡ true = e in absurd cc

      later : (b : Bool) → Has (W l) (wraps xs) → Has (W l) (map W (cond b (x ∷ filter (is_among named) xs) (filter (is_among named) xs)))
      later true h = has_right (W l) (W x ∷ []) (wraps xs) h
      later false h = h

  abbrev m' : Module
  m' = remove_gotos m

  abbrev p' : Proc
  p' = removed p

  scope_stays : (s : Stmt) → is_scope s ≡ true → is_scope (stmt_without named n s) ≡ true
  scope_stays (assert mark E) e = e
  scope_stays (assume at E) e = e
  scope_stays (havoc at xs) e = e
  scope_stays (assign at ps) e = e
  scope_stays (call at q es xs) e = e
  scope_stays (if_else at has_else g ss ts) e = refl
  scope_stays (while at g is ss) e = refl
  scope_stays (break at l) e = e
  scope_stays (return at) e = e
  scope_stays (goto at ls) e = let c : false ≡ true = e in absurd cc
  scope_stays (labelled ls s) e = scope_stays s e

  -- the wrappers of these labels, where gotos name them, stand around
  abbrev Around : List Name → List Name → Type 0
  Around later C = (l : Name) → Has l later → Has l named → Has (W l) C

  typed_choice : (at : Place) (inside : Bool) (C later ls : List Name) → Around later C → AllByRecursion (λ l. IsTrue (is_among later l)) ls → AllByRecursion (λ l. Has l named) ls
      → IsTyped m' p' inside C (choice named n at ls)
  typed_choice at inside C later [] around f g = refl
  typed_choice at inside C later (l ∷ []) around f g = around l f.0 g.0
  typed_choice at inside C later (l ∷ k ∷ ls) around f g = (tt, (around l f.0 g.0, tt), (typed_choice at inside C later (k ∷ ls) around f.1 g.1, tt))

  typed_fold : (ls : List Name) (before : Stmts) (inside : Bool) (C : List Name) → AreTyped m' p' inside (map W ls ++ C) before → AreTyped m' p' inside C (fold (wrapped named n) before ls)
  typed_fold [] before inside C h = h
  typed_fold (l ∷ ls) before inside C h = typed_fold ls (wrapped named n before l) inside C ((refl, h, tt), tt)

  mutual
    typed_stmt : (s : Stmt) (inside : Bool) (A C later : List Name) → Sub A C → Around later C → Sub (named_in s) named → IsTyped m p inside A s → GoesForward later s → IsTyped m' p' inside C (stmt_without named n s)
    typed_stmt (assert mark E) inside A C later f around g h k = h
    typed_stmt (assume at E) inside A C later f around g h k = h
    typed_stmt (havoc at xs) inside A C later f around g h k = h
    typed_stmt (assign at ps) inside A C later f around g h k = h
    typed_stmt (call at q es xs) inside A C later f around g h k = (
      h.0,
      record {
        callee = removed h.1.callee;
        named = slice_get-map removed m.procs q ∙ (λ j. option_map removed (h.1.named j));
        arguments = h.1.arguments;
        results = h.1.results;
      },
    )
    typed_stmt (if_else at has_else guard ss ts) inside A C later f around g h k = (
      h.0,
      typed_list ss no_stmts inside A C later f around (λ l e. g l (has_left l (named_within ss) (named_within ts) e)) tt h.1 k.0,
      typed_list ts no_stmts inside A C later f around (λ l e. g l (has_right l (named_within ss) (named_within ts) e)) tt h.2 k.1,
    )
    typed_stmt (while at guard is ss) inside A C later f around g h k = (h.0, h.1, typed_list ss no_stmts true A C later f around g tt h.2 k)
    typed_stmt (break at None) inside A C later f around g h k = h
    typed_stmt (break at (Some l)) inside A C later f around g h k = f l h
    typed_stmt (return at) inside A C later f around g h k = h
    typed_stmt (goto at ls) inside A C later f around g h k = typed_choice at inside C later ls around k (each_has ls named g)
    typed_stmt (labelled ls s) inside A C later f around g h k =
        typed_stmt s inside (cond (is_scope s) (ls ++ A) A) (cond (is_scope (stmt_without named n s)) (ls ++ C) C) later
        (sub_scope (is_scope s) (is_scope (stmt_without named n s)) (scope_stays s) ls A C f)
        (λ l e d. sub_scope false (is_scope (stmt_without named n s)) (λ x. let c : false ≡ true = x in absurd cc) ls C C (λ y z. z) (W l) (around l e d)) g h k

    typed_list : (ss before : Stmts) (inside : Bool) (A C later : List Name) → Sub A C → Around later C → Sub (named_within ss) named
        → AreTyped m' p' inside (wraps (list_labels ss) ++ C) before → AreTyped m p inside A ss → GoForward later ss → AreTyped m' p' inside C (list_without named n before ss)
    typed_list no_stmts before inside A C later f around g b h k = b
    typed_list (stmt s ss) before inside A C later f around g b h k =
        let D : List Name = wraps (list_labels ss) ++ C in
        let split : wraps (labels_of s ++ list_labels ss) ++ C ≡ wraps (labels_of s) ++ D
        = (λ j. map W (filter-append (is_among named) (labels_of s) (list_labels ss) j) ++ C)
        ∙ ((λ j. map-append W (filter (is_among named) (labels_of s)) (filter (is_among named) (list_labels ss)) j ++ C)
        ∙ append_assoc (wraps (labels_of s)) (wraps (list_labels ss)) C) in
        let wrapped_before = typed_fold (filter (is_among named) (labels_of s)) before inside D (subst (λ (E : List Name). AreTyped m' p' inside E before) split b) in
        let this = typed_stmt s inside A D (list_labels ss ++ later) (λ l e. has_right l (wraps (list_labels ss)) C (f l e))
        (λ l e d. elim (has_one l (list_labels ss) later e) [ inl a ↦ has_left (W l) (wraps (list_labels ss)) C (in_wraps (list_labels ss) l a d) | inr a ↦ has_right (W l) (wraps (list_labels ss)) C (around l a d) ])
        (λ l e. g l (has_left l (named_in s) (named_within ss) e)) h.0 k.0 in
        typed_list ss (append (wrapped_for named n before (labels_of s)) (one (stmt_without named n s))) inside A C later f around (λ l e. g l (has_right l (named_in s) (named_within ss) e))
        (typed_append m' p' (wrapped_for named n before (labels_of s)) (one (stmt_without named n s)) inside D wrapped_before (this, tt)) h.1 k.1

typed_body : (m : Module) (p : Proc) (b : Option Stmts) → BodyGoesForward b → IsBody m p b → IsBody (remove_gotos m) (removed p) (option_map body_without b)
typed_body m p None k h = tt
typed_body m p (Some ss) k h =
    typed_list m p (named_within ss) (longest (labels_within ss)) ss no_stmts false [] [] [] (λ l e. e) (λ l e d. let c : false ≡ true = e in absurd cc) (λ l e. e) tt h k.1

typed_procs : (m : Module) (ps : List Proc) → AllByRecursion (λ p. BodyGoesForward p.body) ps → AllByRecursion (IsTypedProc m) ps → AllByRecursion (IsTypedProc (remove_gotos m)) (map removed ps)
typed_procs m [] k h = tt
typed_procs m (p ∷ ps) k h = (
  record {
    specs = h.0.specs;
    in_clauses = h.0.in_clauses;
    out_clauses = h.0.out_clauses;
    local_clauses = h.0.local_clauses;
    body = typed_body m p p.body k.0 h.0.body;
    none_own = h.0.none_own;
  },
  typed_procs m ps k.1 h.1,
)

pub remove_gotos_stays_typed : RemoveGotosStaysTyped
remove_gotos_stays_typed m typed forward = record { functions = typed.functions; axioms = typed.axioms; clauses = typed.clauses; procs = typed_procs m m.procs forward typed.procs; texts = typed.texts }

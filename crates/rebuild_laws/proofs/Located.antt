-- What a name stands for comes from the declaration at its position; and in a program without faults the name that a declaration declares stands for what it declares.
use Rattle.std.specs.Prelude.{◌≡◌, ℕ, zero, suc, ◌+◌, ◌<◌, Bool, true, false, ◌||◌, cond, is_some, List, [], ◌∷◌, ◌++◌, map, length, find, slice_get, bytes_eq, Option, Some, None}
use Rattle.std.proofs.Common.{refl, ap, sym, ◌∙◌, subst, arith}
use Rattle.bpl_ast.specs.Place.{Name, Ty}
use Rattle.bpl_ast.specs.Statement.{DeclBody, constant, function, axiom_of, variables, synonym, procedure, implementation, Decl}
use Rattle.bv_base.specs.Text.{is_among}
use Rattle.bv_base.proofs.EitherWay.{either_way}
use Rattle.bpl_scopes.specs.Scopes.{Text, Entity, a_constant, a_global, Entry, Table, Counts, counts_with, declared_names, typed_names, names_of, only_names, texts_of, entries_from, entries_of, entries_after, entry_of}
use Rattle.bpl_declaration_faults.specs.DeclFaults.{Before, before_with}
use Rattle.bpl_resolve.proofs.EntriesFine.{NoFaults}
use Rattle.rebuild_laws.proofs.OwnNames.{apart_by, among_more, among_some, declared_apart}

abbrev pub or_in : Option Entry → Option Entry → Option Entry
or_in None o = o
or_in (Some e) o = Some e

pub found_joined : (n : Text) (es fs : Table) → entry_of (es ++ fs) n ≡ or_in (entry_of es n) (entry_of fs n)
found_joined n [] fs = refl
found_joined n (e ∷ es) fs = by (bytes_eq e.name n) (found_joined n es fs)
  where
    by : (b : Bool) → entry_of (es ++ fs) n ≡ or_in (entry_of es n) (entry_of fs n) → cond b (Some e) (entry_of (es ++ fs) n) ≡ or_in (cond b (Some e) (entry_of es n)) (entry_of fs n)
    by true h = refl
    by false h = h

-- names are found where they are declared

is_there : (what : ℕ → Ty → Entity) (d k : ℕ) (ps : List (Name × Ty)) (n : Text) → is_some (entry_of (entries_from what d k ps) n) ≡ is_among (texts_of (only_names ps)) n
is_there what d k [] n = refl
is_there what d k (p ∷ ps) n =
    by (bytes_eq (p.0).text n) (is_there what d (k + 1) ps n) ∙ ap (λ b. b || is_among (texts_of (only_names ps)) n) (either_way (p.0).text n)
  where
    by : (b : Bool) → is_some (entry_of (entries_from what d (k + 1) ps) n) ≡ is_among (texts_of (only_names ps)) n
        → is_some (cond b (Some (record { name = (p.0).text; decl = d; entity = what k p.1 })) (entry_of (entries_from what d (k + 1) ps) n)) ≡ (b || is_among (texts_of (only_names ps)) n)
    by true h = refl
    by false h = h

names_again : (ns : List Name) (s : Ty) → only_names (typed_names ns s) ≡ ns
names_again [] s = refl
names_again (n ∷ ns) s = ap (λ w. n ∷ w) (names_again ns s)

one_there : (e : Entry) (n : Text) → is_some (entry_of (e ∷ []) n) ≡ is_among (e.name ∷ []) n
one_there e n = by (bytes_eq e.name n) ∙ ap (λ b. b || false) (either_way e.name n)
  where
    by : (b : Bool) → is_some (cond b (Some e) None) ≡ (b || false)
    by true = refl
    by false = refl

pub declared_found : (k : Counts) (d : ℕ) (x : DeclBody) (n : Text) → is_some (entry_of (entries_of k d x) n) ≡ is_among (texts_of (declared_names x)) n
declared_found k d (constant u ns s) n = is_there a_constant d k.constants (typed_names ns s) n ∙ ap (λ w. is_among (texts_of w) n) (names_again ns s)
declared_found k d (function m ps ins r x) n = one_there _ n
declared_found k d (axiom_of x) n = refl
declared_found k d (variables gs) n = is_there a_global d k.globals (names_of gs) n
declared_found k d (synonym m s) n = one_there _ n
declared_found k d (procedure m ps g ss b) n = one_there _ n
declared_found k d (implementation m ps g b) n = refl

-- it has the position of its declaration

same_position : (what : ℕ → Ty → Entity) (d k : ℕ) (ps : List (Name × Ty)) (n : Text) (e : Entry) → entry_of (entries_from what d k ps) n ≡ Some e → e.decl ≡ d
same_position what d k [] n e h = absurd (cc)
same_position what d k (p ∷ ps) n e h = by (bytes_eq (p.0).text n) h (same_position what d (k + 1) ps n e)
  where
    by : (b : Bool) → cond b (Some (record { name = (p.0).text; decl = d; entity = what k p.1 })) (entry_of (entries_from what d (k + 1) ps) n) ≡ Some e
        → (entry_of (entries_from what d (k + 1) ps) n ≡ Some e → e.decl ≡ d) → e.decl ≡ d
    by true g later = let q : record { name = (p.0).text; decl = d; entity = what k p.1 } ≡ e = cc in sym (ap (λ (y : Entry). y.decl) q)
    by false g later = later g

one_position : (f : Entry) (n : Text) (e : Entry) → entry_of (f ∷ []) n ≡ Some e → e.decl ≡ f.decl
one_position f n e h = by (bytes_eq f.name n) h
  where
    by : (b : Bool) → cond b (Some f) None ≡ Some e → e.decl ≡ f.decl
    by true g = let q : f ≡ e = cc in sym (ap (λ (y : Entry). y.decl) q)
    by false g = absurd (cc)

pub position_here : (k : Counts) (d : ℕ) (x : DeclBody) (n : Text) (e : Entry) → entry_of (entries_of k d x) n ≡ Some e → e.decl ≡ d
position_here k d (constant u ns s) n e h = same_position a_constant d k.constants (typed_names ns s) n e h
position_here k d (function m ps ins r x) n e h = one_position _ n e h
position_here k d (axiom_of x) n e h = absurd (cc)
position_here k d (variables gs) n e h = same_position a_global d k.globals (names_of gs) n e h
position_here k d (synonym m s) n e h = one_position _ n e h
position_here k d (procedure m ps g ss b) n e h = one_position _ n e h
position_here k d (implementation m ps g b) n e h = absurd (cc)

-- the declaration from which it comes
pub record LocatedIn (first : ℕ) (xs : List Decl) (n : Text) (e : Entry) : Type 0 where
  pub index : ℕ
  pub decl : Decl
  pub counts : Counts
  pub at : slice_get xs index ≡ Some decl
  pub below : index < length xs
  pub place : e.decl ≡ first + index
  pub here : entry_of (entries_of counts e.decl decl.body) n ≡ Some e

pub located : (k : Counts) (d : ℕ) (xs : List Decl) (n : Text) (e : Entry) → entry_of (entries_after k d xs) n ≡ Some e → LocatedIn d xs n e
located k d [] n e h = absurd (cc)
located k d (x ∷ xs) n e h =
    by (entry_of (entries_of k d x.body) n) refl (sym (found_joined n (entries_of k d x.body) (entries_after (counts_with k x.body) (d + 1) xs)) ∙ h) (located (counts_with k x.body) (d + 1) xs n e)
  where
    by : (o : Option Entry) → entry_of (entries_of k d x.body) n ≡ o → or_in o (entry_of (entries_after (counts_with k x.body) (d + 1) xs) n) ≡ Some e
        → (entry_of (entries_after (counts_with k x.body) (d + 1) xs) n ≡ Some e → LocatedIn (d + 1) xs n e) → LocatedIn d (x ∷ xs) n e
    by None f g later =
        let r = later g in
        let p = r.place in
        let b = r.below in
        record { index = suc r.index; decl = r.decl; counts = r.counts; at = r.at; below = omega (arith, b); place = omega (arith, p); here = r.here }
    by (Some y) f g later =
        let q = f ∙ g in
        let p = position_here k d x.body n e q in
        record { index = 0; decl = x; counts = k; at = refl; below = omega arith; place = omega (arith, p); here = subst (λ w. entry_of (entries_of k w x.body) n ≡ Some e) (sym p) q }

-- no name is declared twice

module _ (t : Table) (c : Counts) where
  -- a name that is declared further on was not declared before
  pub not_before : (b : Before) (xs : List Decl) (j : ℕ) (y : Decl) (n : Text) → NoFaults t c b xs → slice_get xs j ≡ Some y → is_among (texts_of (declared_names y.body)) n ≡ true → is_among b.names n ≡ false
  not_before b [] j y n f e h = absurd (cc)
  not_before b (x ∷ xs) zero y n f e h = let q : x ≡ y = cc in declared_apart t c b x.body n f.0 (subst (λ (w : Decl). is_among (texts_of (declared_names w.body)) n ≡ true) (sym q) h)
  not_before b (x ∷ xs) (suc j) y n f e h =
      let z = not_before (before_with b x.body) xs j y n f.1 e h in
      apart_by (is_among b.names n) (λ w. let q = sym (among_more (texts_of (declared_names x.body)) b.names n w) ∙ z in cc)

  -- what is found for a name is what its declaration declares
  pub record FoundAt (n : Text) (o : Option Entry) (place : ℕ) (y : Decl) : Type 0 where
    pub entry : Entry
    pub counts : Counts
    pub is : o ≡ Some entry
    pub decl : entry.decl ≡ place
    pub here : entry_of (entries_of counts entry.decl y.body) n ≡ Some entry

  there_is : (o : Option Entry) → is_some o ≡ true → (e : Entry) × (o ≡ Some e)
  there_is None h = absurd (cc)
  there_is (Some e) h = (e, refl)

  pub none_is : (o : Option Entry) → is_some o ≡ false → o ≡ None
  none_is None h = refl
  none_is (Some e) h = absurd (cc)

  pub found_at : (b : Before) (k : Counts) (d : ℕ) (xs : List Decl) (j : ℕ) (y : Decl) (n : Text) → NoFaults t c b xs → slice_get xs j ≡ Some y → is_among (texts_of (declared_names y.body)) n ≡ true
      → FoundAt n (entry_of (entries_after k d xs) n) (d + j) y
  found_at b k d [] j y n f e h = absurd (cc)
  found_at b k d (x ∷ xs) zero y n f e h =
      let q : x ≡ y = cc in
      let r = there_is (entry_of (entries_of k d x.body) n) (declared_found k d x.body n ∙ subst (λ (w : Decl). is_among (texts_of (declared_names w.body)) n ≡ true) (sym q) h) in
      let p = position_here k d x.body n r.0 r.1 in
      record {
        entry = r.0;
        counts = k;
        is = found_joined n (entries_of k d x.body) (entries_after (counts_with k x.body) (d + 1) xs) ∙ ap (λ o. or_in o (entry_of (entries_after (counts_with k x.body) (d + 1) xs) n)) r.1;
        decl = omega (arith, p);
        here = subst (λ (w : Decl). entry_of (entries_of k r.0.decl w.body) n ≡ Some r.0) q (subst (λ w. entry_of (entries_of k w x.body) n ≡ Some r.0) (sym p) r.1);
      }
  found_at b k d (x ∷ xs) (suc j) y n f e h =
      let z = not_before (before_with b x.body) xs j y n f.1 e h in
      let a = apart_by (is_among (texts_of (declared_names x.body)) n) (λ w. let q = sym (among_some (texts_of (declared_names x.body)) b.names n w) ∙ z in cc) in
      let r = found_at (before_with b x.body) (counts_with k x.body) (d + 1) xs j y n f.1 e h in
      let p = r.decl in
      record {
        entry = r.entry;
        counts = r.counts;
        is = found_joined n (entries_of k d x.body) (entries_after (counts_with k x.body) (d + 1) xs)
            ∙ (ap (λ o. or_in o (entry_of (entries_after (counts_with k x.body) (d + 1) xs) n)) (none_is (entry_of (entries_of k d x.body) n) (declared_found k d x.body n ∙ a)) ∙ r.is);
        decl = omega (arith, p);
        here = r.here;
      }

-- Where a session stands: between two lines, and with a line in hand.
use Rattle.std.proofs.Common.{◌≡◌, ◌≢◌, ◌⊎◌, inl, inr, ℕ, ◌+◌, ◌-◌, ◌^◌, ◌<◌, ◌≤◌, Bool, true, false, List, [], ◌∷◌, ◌++◌, length, take, Option, Some, None, IfSome, OnOk, Result, Ok, Err, refl, sym, ap, ◌∙◌, subst, arith, append_assoc, append-nil, length-append}
use Rattle.std.proofs.lemmas.List.{map-append}
use Rattle.bv_base.specs.Known.{Takes, Adds}
use Rattle.bv_base.specs.Lines.{BeginsWith, IsFirst, Gives}
use Rattle.bv_base.specs.Buffer.{Buffer}
use Rattle.bv_base.specs.declared.line.Line.{Line}
use Rattle.bv_base.specs.declared.line.Line.TheVariants.{Whole, Long, End}
use Rattle.bv_base.specs.declared.reading.LineFault.TheVariants.{Read as Failed, Full as Exceeded}
use Rattle.bv_base.proofs.KnownLemmas.{Takes-nil, Takes-more, Adds-nil, Adds-more}
use Rattle.line_server.specs.Exchanges.{Exchange, lines_of, text_of, Answers, none, last, more}
use Rattle.line_server.specs.Endings.{AreFirst, IsDone, IsStopped, IsFull, IsBroken, IsStarved, Ends, TakesWithin}
use Rattle.line_server.specs.Exchanged.{IsThere, IsRead, IsRefused, HasNone, IsLine, HasBytes, IsExchange, IsPassed}
use Rattle.line_server.specs.declared.serving.Ending.{Ending}
use Rattle.line_server.specs.declared.serving.Ending.TheVariants.{Done, ReadFault, WriteFault, Memory, Full}
use Rattle.line_server.proofs.Splits.{splits_none, asked_more, asked_empty}
use Rattle.line_server.proofs.Served.{IsWhole, IsWholeWith, whole_with, are_first, are_first_with, are_all, are_whole, are_full}

text_append : (xs ys : List Exchange) → text_of (xs ++ ys) ≡ text_of xs ++ text_of ys
text_append [] ys = refl
text_append (x ∷ xs) ys = ap (λ t. x.reply ++ t) (text_append xs ys) ∙ sym (append_assoc x.reply (text_of xs) (text_of ys))

begins_shorter : (bytes rest : List ℕ) (later : Option (List ℕ)) (line : List ℕ) → BeginsWith bytes rest later line → length rest < length bytes
begins_shorter bytes rest later line (h, inl p) = omega (arith, ap length p, length-append line (10 ∷ rest))
begins_shorter bytes rest later [] (h, inr p) = absurd (p.0 refl)
begins_shorter bytes rest later (x ∷ xs) (h, inr p) = omega (arith, ap length p.1, ap length p.2)

-- with a line the buffer gave a byte at least
first_shorter : (limit : ℕ) (bytes rest : List ℕ) (later : Option (List ℕ)) (line : Line) → IsFirst limit bytes rest later line → IsThere line → length rest < length bytes
first_shorter limit bytes rest later (Whole v) f there = begins_shorter bytes rest later v.items f.1
first_shorter limit bytes rest later Long f there = begins_shorter bytes rest later f.0 f.2
first_shorter limit bytes rest later End f there = absurd there

pub goes_further : (limit : ℕ) (buffer new : Buffer) (rest later : Option (List ℕ)) (line : Line) → IsRead limit buffer new rest later line → buffer.taken + length new.ahead < new.taken + length buffer.ahead
goes_further limit buffer new rest later line r =
    let g = r.gives in
    omega (arith, first_shorter limit (buffer.ahead ++ g.bytes) new.ahead later line g.first r.there, g.counted, length-append buffer.ahead g.bytes)

module _ {V : Type 0} (replies : V → List ℕ → V → List ℕ → Bool → Type 0) (fails : V → List ℕ → V → Type 0) where
  -- one more line
  pub answers_more : (xs : List Exchange) (a b c : V) (x : Exchange) (is_last : Bool) → Answers replies a xs b false → replies b x.line c x.reply is_last → Answers replies a (xs ++ x ∷ []) c is_last
  answers_more [] a b c x true none r = last x r
  answers_more [] a b c x false none r = more x r none
  answers_more (y ∷ ys) a b c x is_last (more {b = d} _ q rest) r = more y q (answers_more ys d b c x is_last rest r)

  module _ (counts : V → ℕ → Type 0) (total : ℕ) (old : V) (left held : Option (List ℕ)) where
    -- between two lines
    pub record IsServing (now : V) (buffer : Buffer) (rest held' : Option (List ℕ)) : Type 0 where
      pub exchanges : List Exchange
      pub answered : Answers replies old exchanges now false
      pub written : Adds held held' (text_of exchanges)
      pub taken : List ℕ
      pub takes : Takes left rest taken
      pub counted : buffer.taken ≡ length taken
      pub given : List ℕ
      pub split : taken ≡ given ++ buffer.ahead
      pub few : length exchanges ≤ length given
      pub count : counts now (length exchanges)
      pub whole : IfSome left (λ _. IsWhole given buffer.ahead rest (lines_of exchanges))

    pub at_first : (now : V) (buffer : Buffer) → now ≡ old → counts now 0 → buffer.ahead ≡ [] → buffer.taken ≡ 0 → IsServing now buffer left held
    at_first now buffer same fresh nil zero_taken = record {
      exchanges = [];
      answered = subst (λ (v : V). Answers replies old [] v false) (sym same) none;
      written = Adds-nil held;
      taken = [];
      takes = Takes-nil left;
      counted = zero_taken;
      given = [];
      split = sym nil;
      few = omega arith;
      count = fresh;
      whole = whole_first left;
    }
      where
        whole_first : (o : Option (List ℕ)) → IfSome o (λ _. IsWhole [] buffer.ahead left [])
        whole_first None = tt
        whole_first (Some input) = ([], refl, inl splits_none)

    -- with a line in hand
    pub record IsAtLine (now : V) (buffer : Buffer) (rest held' : Option (List ℕ)) (line : List ℕ) : Type 0 where
      pub exchanges : List Exchange
      pub answered : Answers replies old exchanges now false
      pub written : Adds held held' (text_of exchanges)
      pub taken : List ℕ
      pub takes : Takes left rest taken
      pub counted : buffer.taken ≡ length taken
      pub given : List ℕ
      pub split : taken ≡ given ++ buffer.ahead
      pub few : length exchanges + 1 ≤ length given
      pub count : counts now (length exchanges)
      pub whole : IfSome left (λ _. IsWholeWith given buffer.ahead rest (lines_of exchanges) line)
      pub first : AreFirst left (lines_of exchanges)

    at_line : (now : V) (buffer new : Buffer) (rest later held' : Option (List ℕ)) (line bytes : List ℕ) → IsServing now buffer rest held' → Takes rest later bytes → new.taken ≡ buffer.taken + length bytes
        → BeginsWith (buffer.ahead ++ bytes) new.ahead later line → IsAtLine now new later held' line
    at_line now buffer new rest later held' line bytes s t counted (h, inl p) =
        let given = s.given ++ (line ++ 10 ∷ []) in
        let split : s.taken ++ bytes ≡ given ++ new.ahead =
        ap (λ xs. xs ++ bytes) s.split ∙ append_assoc s.given buffer.ahead bytes ∙ ap (λ xs. s.given ++ xs) p ∙ ap (λ xs. s.given ++ xs) (sym (append_assoc line (10 ∷ []) new.ahead)) ∙ sym (append_assoc s.given (line ++ 10 ∷ []) new.ahead) in
        record {
          exchanges = s.exchanges;
          answered = s.answered;
          written = s.written;
          taken = s.taken ++ bytes;
          takes = Takes-more left rest later s.taken bytes s.takes t;
          counted = omega (arith, counted, s.counted, length-append s.taken bytes);
          given = given;
          split = split;
          few = omega (arith, s.few, length-append s.given (line ++ 10 ∷ []), length-append line (10 ∷ []));
          count = s.count;
          whole = whole_with left rest later s.taken s.given given buffer.ahead new.ahead bytes line (lines_of s.exchanges) s.takes t s.whole (h, inl (refl, p));
          first = are_first left rest s.taken s.given buffer.ahead (lines_of s.exchanges) s.takes s.split s.whole;
        }
    at_line now buffer new rest later held' line bytes s t counted (h, inr p) =
        let given = s.given ++ line in
        let split : s.taken ++ bytes ≡ given ++ new.ahead =
        ap (λ xs. xs ++ bytes) s.split ∙ append_assoc s.given buffer.ahead bytes ∙ ap (λ xs. s.given ++ xs) p.1 ∙ sym (append-nil given) ∙ ap (λ xs. given ++ xs) (sym p.2) in
        record {
          exchanges = s.exchanges;
          answered = s.answered;
          written = s.written;
          taken = s.taken ++ bytes;
          takes = Takes-more left rest later s.taken bytes s.takes t;
          counted = omega (arith, counted, s.counted, length-append s.taken bytes);
          given = given;
          split = split;
          few = omega (arith, s.few, length-append s.given line, some line p.0);
          count = s.count;
          whole = whole_with left rest later s.taken s.given given buffer.ahead new.ahead bytes line (lines_of s.exchanges) s.takes t s.whole (h, inr (refl, p.0, p.1, p.2, p.3));
          first = are_first left rest s.taken s.given buffer.ahead (lines_of s.exchanges) s.takes s.split s.whole;
        }
      where
        some : (xs : List ℕ) → xs ≢ [] → 1 ≤ length xs
        some [] ne = absurd (ne refl)
        some (x ∷ xs) ne = omega arith

    -- the line that was read, with its bytes
    pub record IsInHand (limit : ℕ) (now : V) (buffer : Buffer) (rest held' : Option (List ℕ)) (line : Line) : Type 0 where
      pub bytes : List ℕ
      pub is : IsLine limit bytes line
      pub at : IsAtLine now buffer rest held' bytes

    read_in_hand : (limit : ℕ) (now : V) (buffer new : Buffer) (rest later held' : Option (List ℕ)) (line : Line) → IsServing now buffer rest held' → Gives limit buffer new rest later line → IsThere line
        → IsInHand limit now new later held' line
    read_in_hand limit now buffer new rest later held' (Whole v) s g there =
        record { bytes = v.items; is = (refl, (g.first).0); at = at_line now buffer new rest later held' v.items g.bytes s g.takes g.counted (g.first).1 }
    read_in_hand limit now buffer new rest later held' Long s g there =
        record { bytes = (g.first).0; is = (g.first).1; at = at_line now buffer new rest later held' (g.first).0 g.bytes s g.takes g.counted (g.first).2 }
    read_in_hand limit now buffer new rest later held' End s g there = absurd there

    pub in_hand : (limit longest : ℕ) (now : V) (buffer new : Buffer) (rest later held' : Option (List ℕ)) (line : Line) → limit ≡ longest → IsServing now buffer rest held' → IsRead limit buffer new rest later line → IsInHand longest now new later held' line
    in_hand limit longest now buffer new rest later held' line same s r =
        subst (λ (n : ℕ). IsInHand n now new later held' line) same (read_in_hand limit now buffer new rest later held' line s r.gives r.there)

    -- ---- the line is answered, or passed over

    lines_more : (xs : List Exchange) (x : Exchange) → lines_of (xs ++ x ∷ []) ≡ lines_of xs ++ x.line ∷ []
    lines_more xs x = map-append (λ (y : Exchange). y.line) xs (x ∷ [])

    text_more : (xs : List Exchange) (x : Exchange) → text_of (xs ++ x ∷ []) ≡ text_of xs ++ x.reply
    text_more xs x = text_append xs (x ∷ []) ∙ ap (λ t. text_of xs ++ t) (append-nil x.reply)

    whole_more : (o : Option (List ℕ)) (given ahead line : List ℕ) (rest : Option (List ℕ)) (ls : List (List ℕ)) → 0 < length line → IfSome o (λ _. IsWholeWith given ahead rest ls line) → IfSome o (λ _. IsWhole given ahead rest (ls ++ line ∷ []))
    whole_more None given ahead line rest ls some w = tt
    whole_more (Some input) given ahead line rest ls some w = (w.0 ++ line ∷ [], asked_more w.0 ls line some w.1, w.2)

    whole_same : (o : Option (List ℕ)) (given ahead line : List ℕ) (rest : Option (List ℕ)) (ls : List (List ℕ)) → line ≡ [] → IfSome o (λ _. IsWholeWith given ahead rest ls line) → IfSome o (λ _. IsWhole given ahead rest ls)
    whole_same None given ahead line rest ls nil w = tt
    whole_same (Some input) given ahead line rest ls nil w = (w.0 ++ line ∷ [], asked_empty w.0 ls line nil w.1, w.2)

    written_more : (held₁ held₂ : Option (List ℕ)) (xs : List Exchange) (x : Exchange) → Adds held held₁ (text_of xs) → Adds held₁ held₂ x.reply → Adds held held₂ (text_of (xs ++ x ∷ []))
    written_more held₁ held₂ xs x w v = subst (Adds held held₂) (sym (text_more xs x)) (Adds-more held held₁ held₂ (text_of xs) x.reply w v)

    goes_on : (now new : V) (buffer : Buffer) (rest held₁ held₂ : Option (List ℕ)) (line text : List ℕ) → IsAtLine now buffer rest held₁ line → 0 < length line → replies now line new text false → Adds held₁ held₂ text → ((n : ℕ) → counts now n → counts new (n + 1)) → IsServing new buffer rest held₂
    goes_on now new buffer rest held₁ held₂ line text a some r w one =
        let x : Exchange = record { line = line; reply = text } in
        record {
          exchanges = a.exchanges ++ x ∷ [];
          answered = answers_more a.exchanges _ _ _ x false a.answered r;
          written = written_more held₁ held₂ a.exchanges x a.written w;
          taken = a.taken;
          takes = a.takes;
          counted = a.counted;
          given = a.given;
          split = a.split;
          few = omega (arith, a.few, length-append a.exchanges (x ∷ []));
          count = subst (λ (n : ℕ). counts new n) (sym (length-append a.exchanges (x ∷ []))) (one (length a.exchanges) a.count);
          whole = subst (λ (ls : List (List ℕ)). IfSome left (λ _. IsWhole a.given buffer.ahead rest ls)) (sym (lines_more a.exchanges x)) (whole_more left a.given buffer.ahead line rest (lines_of a.exchanges) some a.whole);
        }

    passes : (now new : V) (buffer : Buffer) (rest held₁ held₂ : Option (List ℕ)) (line : List ℕ) → IsAtLine now buffer rest held₁ line → line ≡ [] → new ≡ now → held₂ ≡ held₁ → IsServing new buffer rest held₂
    passes now new buffer rest held₁ held₂ line a nil same quiet = record {
      exchanges = a.exchanges;
      answered = subst (λ (v : V). Answers replies old a.exchanges v false) (sym same) a.answered;
      written = subst (λ (h : Option (List ℕ)). Adds held h (text_of a.exchanges)) (sym quiet) a.written;
      taken = a.taken;
      takes = a.takes;
      counted = a.counted;
      given = a.given;
      split = a.split;
      few = omega (arith, a.few);
      count = subst (λ (v : V). counts v (length a.exchanges)) (sym same) a.count;
      whole = whole_same left a.given buffer.ahead line rest (lines_of a.exchanges) nil a.whole;
    }

    has_bytes : (limit : ℕ) (bytes : List ℕ) (line : Line) → IsLine limit bytes line → HasBytes line → 0 < length bytes
    has_bytes limit bytes (Whole v) is some = omega (arith, ap length is.0, some)
    has_bytes limit bytes Long is some = omega (arith, is)
    has_bytes limit bytes End is some = absurd is

    -- a line is one or the other
    bytes_or_none : (limit : ℕ) (bytes : List ℕ) (line : Line) → IsLine limit bytes line → HasBytes line ⊎ ((¬ HasBytes line) × (bytes ≡ []))
    bytes_or_none limit [] (Whole v) is = inr ((λ some. omega (arith, ap length is.0, some)), refl)
    bytes_or_none limit (x ∷ xs) (Whole v) is = inl (omega (arith, ap length is.0))
    bytes_or_none limit bytes Long is = inl tt
    bytes_or_none limit bytes End is = absurd is

    -- what serving a line says
    pub record IsServedLine {U : Type 0} (longest : ℕ) (now new : V) (held₁ held₂ : Option (List ℕ)) (line : Line) (result : Result U Ending) : Type 0 where
      pub exchanged : HasBytes line → (bytes : List ℕ) → IsLine longest bytes line → IsExchange replies fails now new bytes held₁ held₂ result
      pub passed : ¬ HasBytes line → IsPassed replies fails now new [] held₁ held₂ result
      pub count : HasBytes line → OnOk result ((n : ℕ) → counts now n → counts new (n + 1))

    pub line_served : {U : Type 0} (limit : ℕ) (now new : V) (buffer : Buffer) (rest held₁ held₂ : Option (List ℕ)) (line : Line) (u : U) → IsInHand limit now buffer rest held₁ line → IsServedLine limit now new held₁ held₂ line (Ok u) → IsServing new buffer rest held₂
    line_served {U = U} limit now new buffer rest held₁ held₂ line u i s = by (bytes_or_none limit i.bytes line i.is)
      where
        by : HasBytes line ⊎ ((¬ HasBytes line) × (i.bytes ≡ [])) → IsServing new buffer rest held₂
        by (inl some) =
            let x = s.exchanged some i.bytes i.is in
            let r : replies now i.bytes new x.text false = subst (λ (b : Bool). replies now i.bytes new x.text b) (x.written).0 x.replied in
            goes_on now new buffer rest held₁ held₂ i.bytes x.text i.at (has_bytes limit i.bytes line i.is some) r (x.written).1 (s.count some)
        by (inr empty) =
            let p = s.passed empty.0 in
            passes now new buffer rest held₁ held₂ i.bytes i.at empty.1 p.value p.unwritten

    -- there is room for one more line
    pub room : (limit : ℕ) (now : V) (buffer : Buffer) (rest held' : Option (List ℕ)) (line : Line) → IsInHand limit now buffer rest held' line → buffer.taken ≤ total → total ≤ 2 ^ 32 → (n : ℕ) × (n < 2 ^ 32) × counts now n
    room limit now buffer rest held' line i within short =
        let a = i.at in
        (length a.exchanges, omega (arith, a.few, a.counted, ap length a.split, length-append a.given buffer.ahead, within, short), a.count)

    -- ---- endings

    done_last : (limit : ℕ) (now new : V) (buffer : Buffer) (rest held₁ held₂ : Option (List ℕ)) (line : Line) (i : IsInHand limit now buffer rest held₁ line) → HasBytes line
        → (text : List ℕ) → replies now i.bytes new text true → Adds held₁ held₂ text → IsDone replies fails total old new left rest held held₂
    done_last limit now new buffer rest held₁ held₂ line i some text r w =
        let x : Exchange = record { line = i.bytes; reply = text } in
        let a = i.at in
        record {
          exchanges = a.exchanges ++ x ∷ [];
          is_last = true;
          answered = answers_more a.exchanges _ _ _ x true a.answered r;
          served = subst (AreFirst left) (sym (lines_more a.exchanges x)) (are_first_with left rest a.taken a.given buffer.ahead i.bytes (lines_of a.exchanges) (has_bytes limit i.bytes line i.is some) a.takes a.split a.whole);
          written = written_more held₁ held₂ a.exchanges x a.written w;
        }

    broken_by : (limit : ℕ) (now new : V) (buffer : Buffer) (rest held₁ held₂ : Option (List ℕ)) (line : Line) (i : IsInHand limit now buffer rest held₁ line) → HasBytes line
        → (text : List ℕ) (is_last : Bool) (n : ℕ) → replies now i.bytes new text is_last → n < length text → Adds held₁ held₂ (take n text) → IsBroken replies fails total old new left rest held held₂
    broken_by limit now new buffer rest held₁ held₂ line i some text is_last n r short w =
        let x : Exchange = record { line = i.bytes; reply = text } in
        let a = i.at in
        record {
          exchanges = a.exchanges;
          broken = x;
          is_last = is_last;
          answered = answers_more a.exchanges _ _ _ x is_last a.answered r;
          first = subst (AreFirst left) (sym (lines_more a.exchanges x)) (are_first_with left rest a.taken a.given buffer.ahead i.bytes (lines_of a.exchanges) (has_bytes limit i.bytes line i.is some) a.takes a.split a.whole);
          written_of = n;
          short = short;
          written = Adds-more held held₁ held₂ (text_of a.exchanges) (take n text) a.written w;
        }

    starved_by : (limit : ℕ) (now new : V) (buffer : Buffer) (rest held₁ held₂ : Option (List ℕ)) (line : Line) (i : IsInHand limit now buffer rest held₁ line) → HasBytes line → (held₂ ≡ held₁) × fails now i.bytes new → IsStarved replies fails total old new left rest held held₂
    starved_by limit now new buffer rest held₁ held₂ line i some quiet =
        let a = i.at in
        record {
          exchanges = a.exchanges;
          value = now;
          ended_at = inr (i.bytes, quiet.1, are_first_with left rest a.taken a.given buffer.ahead i.bytes (lines_of a.exchanges) (has_bytes limit i.bytes line i.is some) a.takes a.split a.whole);
          answered = a.answered;
          first = a.first;
          written = subst (λ (h : Option (List ℕ)). Adds held h (text_of a.exchanges)) (sym quiet.0) a.written;
        }

    exchange_ends : (U : Type 0) (limit : ℕ) (now new : V) (buffer : Buffer) (rest held₁ held₂ : Option (List ℕ)) (line : Line) (ending : Ending) (i : IsInHand limit now buffer rest held₁ line) → HasBytes line
        → IsExchange replies fails now new i.bytes held₁ held₂ {U = U} (Err ending) → Ends replies fails total old new left rest held held₂ ending
    exchange_ends U limit now new buffer rest held₁ held₂ line Done i some x =
        done_last limit now new buffer rest held₁ held₂ line i some x.text (subst (λ (b : Bool). replies now i.bytes new x.text b) (x.written).0 x.replied) (x.written).1
    exchange_ends U limit now new buffer rest held₁ held₂ line WriteFault i some x =
        broken_by limit now new buffer rest held₁ held₂ line i some x.text x.is_last (x.written).0 x.replied (x.written).1 (x.written).2
    exchange_ends U limit now new buffer rest held₁ held₂ line Memory i some x = starved_by limit now new buffer rest held₁ held₂ line i some x
    exchange_ends U limit now new buffer rest held₁ held₂ line ReadFault i some x = absurd x
    exchange_ends U limit now new buffer rest held₁ held₂ line Full i some x = absurd x

    -- a line that ends the session
    pub line_ends : {U : Type 0} (limit : ℕ) (now new : V) (buffer : Buffer) (rest held₁ held₂ : Option (List ℕ)) (line : Line) (ending : Ending) → IsInHand limit now buffer rest held₁ line → IsServedLine {U = U} limit now new held₁ held₂ line (Err ending)
        → Ends replies fails total old new left rest held held₂ ending
    line_ends {U = U} limit now new buffer rest held₁ held₂ line ending i s = by (bytes_or_none limit i.bytes line i.is)
      where
        by : HasBytes line ⊎ ((¬ HasBytes line) × (i.bytes ≡ [])) → Ends replies fails total old new left rest held held₂ ending
        by (inl some) = exchange_ends U limit now new buffer rest held₁ held₂ line ending i some (s.exchanged some i.bytes i.is)
        by (inr empty) = absurd (s.passed empty.0).goes_on

    -- no line ends the session by a failed read
    pub never_read : {U : Type 0} (limit : ℕ) (now new : V) (buffer : Buffer) (rest held₁ held₂ : Option (List ℕ)) (line : Line) (ending : Ending) → IsInHand limit now buffer rest held₁ line → IsServedLine {U = U} limit now new held₁ held₂ line (Err ending)
        → ending ≡ ReadFault → ⊥
    never_read {U = U} limit now new buffer rest held₁ held₂ line ending i s is = by (bytes_or_none limit i.bytes line i.is)
      where
        by : HasBytes line ⊎ ((¬ HasBytes line) × (i.bytes ≡ [])) → ⊥
        by (inl some) = subst (λ (e : Ending). IsExchange replies fails now new i.bytes held₁ held₂ {U = U} (Err e)) is (s.exchanged some i.bytes i.is)
        by (inr empty) = (s.passed empty.0).goes_on

    -- nothing was read
    pub done_all : (limit : ℕ) (now : V) (buffer new : Buffer) (rest later held' : Option (List ℕ)) → IsServing now buffer rest held' → Gives limit buffer new rest later End → IsDone replies fails total old now left later held held'
    done_all limit now buffer new rest later held' s g = record {
      exchanges = s.exchanges;
      is_last = false;
      answered = s.answered;
      served = are_all left rest later s.taken s.given buffer.ahead g.bytes (lines_of s.exchanges) (Takes-more left rest later s.taken g.bytes s.takes g.takes) s.split (g.first).0 (g.first).2 s.whole;
      written = s.written;
    }

    stopped : (limit : ℕ) (now : V) (buffer new : Buffer) (rest later held' : Option (List ℕ)) → IsServing now buffer rest held' → buffer.total ≡ total → IsRefused limit buffer new rest later Failed → IsStopped replies fails total old now left later held held'
    stopped limit now buffer new rest later held' s same r = record {
      exchanges = s.exchanges;
      answered = s.answered;
      taken = s.taken ++ r.bytes;
      takes = Takes-more left rest later s.taken r.bytes s.takes r.takes;
      within = omega (arith, r.upto, same, s.counted, length-append s.taken r.bytes);
      whole = are_whole left rest later s.taken s.given buffer.ahead r.bytes (lines_of s.exchanges) s.takes r.takes s.split r.no_line s.whole;
      written = s.written;
    }

    filled : (limit : ℕ) (now : V) (buffer new : Buffer) (rest later held' : Option (List ℕ)) → IsServing now buffer rest held' → buffer.total ≡ total → buffer.taken ≤ total → IsRefused limit buffer new rest later Exceeded → IsFull replies fails total old now left later held held'
    filled limit now buffer new rest later held' s same within r =
        let exact : length (s.taken ++ r.bytes) ≡ total + 1 = omega (arith, r.upto, same, s.counted, length-append s.taken r.bytes) in
        record {
          exchanges = s.exchanges;
          answered = s.answered;
          taken = s.taken ++ r.bytes;
          takes = Takes-more left rest later s.taken r.bytes s.takes r.takes;
          further = exact;
          whole = are_full total left rest later s.taken s.given buffer.ahead r.bytes (lines_of s.exchanges) s.takes r.takes s.split (omega (arith, within, s.counted)) exact r.no_line s.whole;
          written = s.written;
        }

    starved : (now : V) (buffer : Buffer) (rest later held' : Option (List ℕ)) → IsServing now buffer rest held' → IsStarved replies fails total old now left later held held'
    starved now buffer rest later held' s = record {
      exchanges = s.exchanges;
      value = now;
      ended_at = inl refl;
      answered = s.answered;
      first = are_first left rest s.taken s.given buffer.ahead (lines_of s.exchanges) s.takes s.split s.whole;
      written = s.written;
    }

    -- why the session ends without a line
    pub none_ends : (limit : ℕ) (now : V) (buffer new : Buffer) (rest later held' : Option (List ℕ)) (ending : Ending) → IsServing now buffer rest held' → buffer.total ≡ total → buffer.taken ≤ total → HasNone limit buffer new rest later ending
        → Ends replies fails total old now left later held held' ending
    none_ends limit now buffer new rest later held' Done s same within g = done_all limit now buffer new rest later held' s g
    none_ends limit now buffer new rest later held' ReadFault s same within r = stopped limit now buffer new rest later held' s same r
    none_ends limit now buffer new rest later held' Full s same within r = filled limit now buffer new rest later held' s same within r
    none_ends limit now buffer new rest later held' Memory s same within r = starved now buffer rest later held' s
    none_ends limit now buffer new rest later held' WriteFault s same within r = absurd r

    taken_within : (now : V) (buffer : Buffer) (rest later held' : Option (List ℕ)) (bytes : List ℕ) → IsServing now buffer rest held' → buffer.taken + length bytes ≤ total → Takes rest later bytes → TakesWithin total left later
    taken_within now buffer rest later held' bytes s within t =
        (s.taken ++ bytes, omega (arith, within, s.counted, length-append s.taken bytes), Takes-more left rest later s.taken bytes s.takes t)

    pub none_within : (limit : ℕ) (now : V) (buffer new : Buffer) (rest later held' : Option (List ℕ)) (ending : Ending) → IsServing now buffer rest held' → buffer.total ≡ total → new.taken ≤ total → HasNone limit buffer new rest later ending
        → ¬ (ending ≡ Full) → TakesWithin total left later
    none_within limit now buffer new rest later held' Done s same within g other = taken_within now buffer rest later held' g.bytes s (omega (arith, within, g.counted)) g.takes
    none_within limit now buffer new rest later held' ReadFault s same within r other = taken_within now buffer rest later held' r.bytes s (omega (arith, r.upto, same)) r.takes
    none_within limit now buffer new rest later held' Full s same within r other = absurd (other refl)
    none_within limit now buffer new rest later held' Memory s same within r other = taken_within now buffer rest later held' r.bytes s (omega (arith, r.upto, same)) r.takes
    none_within limit now buffer new rest later held' WriteFault s same within r other = absurd r

    pub hand_within : (limit : ℕ) (now : V) (buffer : Buffer) (rest held' : Option (List ℕ)) (line : Line) → IsInHand limit now buffer rest held' line → buffer.taken ≤ total → TakesWithin total left rest
    hand_within limit now buffer rest held' line i within = ((i.at).taken, omega (arith, within, (i.at).counted), (i.at).takes)

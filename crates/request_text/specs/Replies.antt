-- The bytes of a reply: one compact JSON object, its keys in rising order, and a line feed.
use Rattle.std.specs.Prelude.{ℕ, true, List, [], ◌∷◌, ◌++◌, map, codes, decimal}
use Rattle.serde_json.specs.Data.{Data, boolean, number, string, array, object, unsigned, Items, Members, no_members, member}
use Rattle.serde_json.specs.View.{items_of}
use Rattle.serde_json.specs.Written.{compact_text}
use Rattle.request_text.specs.Request.{Text, BadRequest, bad_json, bad_op, bad_field, too_long, Reply, accepted, counted, reported, summed, proved, ended, refused, memory, absent, misnamed, fault}

abbrev pub bad_word : BadRequest → Text
bad_word bad_json = codes "Json"
bad_word bad_op = codes "Op"
bad_word bad_field = codes "Field"
bad_word too_long = codes "Long"

abbrev pub count : ℕ → Data
count n = number (unsigned n)

abbrev pub strings : List Text → Items
strings ls = items_of (map string ls)

abbrev pub lines_under : Text → List Text → ℕ → Members
lines_under key ls version = member key (array (strings ls)) (member (codes "version") (count version) no_members)

abbrev pub error : Text → Members
error word = member (codes "error") (string word) no_members

abbrev pub error_of : Text → Text → Members
error_of word name = member (codes "error") (string word) (member (codes "name") (string name) no_members)

abbrev pub members : Reply → Members
members (accepted goals rebuilt version) = member (codes "goals") (count goals) (member (codes "rebuilt") (count rebuilt) (member (codes "version") (count version) no_members))
members (counted done pending version) = member (codes "done") (count done) (member (codes "pending") (count pending) (member (codes "version") (count version) no_members))
members (reported ls version) = lines_under (codes "report") ls version
members (summed ls version) = lines_under (codes "sums") ls version
members (proved ls version) = lines_under (codes "proofs") ls version
members ended = member (codes "ok") (boolean true) no_members
members (refused b) = error (bad_word b)
members memory = error (codes "Memory")
members (absent name) = error_of (codes "Absent") name
members (misnamed name) = error_of (codes "Name") name
members (fault kind decl line col word) =
    member (codes "fault") (string kind) (member (codes "in") (string decl)
    (member (codes "place") (string (decimal line ++ codes ":" ++ decimal col)) (member (codes "word") (string word) no_members)))

-- the value that is written
abbrev pub value_of : Reply → Data
value_of r = object (members r)

abbrev pub reply_text : Reply → Text
reply_text r = compact_text (value_of r) ++ 10 ∷ []

-- Worked rows, computed.
use Rattle.std.specs.Prelude.{◌≡◌, ℕ, List, [], ◌∷◌, ◌++◌, false, true, refl, codes}
use Rattle.std.specs.Fmt.{digits}
use Rattle.mj_base.specs.declared.record.Kind.TheVariants as kind
use Rattle.mj_maps.specs.Map.{entries, get, insert, remove, empty, len, collect}
use Rattle.mj_tree.specs.declared.change.Attributes.{Attributes}
use Rattle.mj_tree.specs.declared.request.ClientRequest.{ClientRequest}
use Rattle.mj_tree.specs.declared.request.Op.{Op}
use Rattle.mj_tree.specs.declared.request.Op.TheVariants.{SessionOpen, Mkdir, Create, Link, Unlink, Rename, SetAttr, OpenFile, Release, Lookup, Readdir}
use Rattle.mj_tree.specs.declared.request.Reply.{Reply}
use Rattle.mj_tree.specs.declared.request.Reply.TheVariants as reply
use Rattle.mj_tree.specs.State.{PlainState, new_state, record_of}
use Rattle.mj_tree.specs.Row.{at_new, make, link, unlink, rename, rename_over, set_attr, open_file, release, effect, lookup, readdir}
use Rattle.mj_tree.specs.Answer.{changing, closing, in_session, opening, by_session, decision, answer, after, after_all}
use Rattle.mj_tree.specs.Listing.{listing}

abbrev ask : ℕ → ℕ → ℕ → Op → ClientRequest
ask client tid now op = record { client = client; tid = tid; oldest = 1; now = now; op = op }

-- the replies to requests, one after the other
abbrev replies : PlainState → List ClientRequest → List Reply
replies s [] = []
replies s (r ∷ rs) = answer s r ∷ replies (after s r) rs

-- a first directory
first : List ClientRequest
first = ask 4 1 100 SessionOpen ∷ ask 4 2 101 (Mkdir (codes "a" ∷ []) 0o755) ∷ []

first_is : listing (after_all (new_state 0) first) true ≡ codes "/\n/a dir 0755 0 0 0 101 1 1099511627776\nnext 1099511627777\nsession 4 1\nreply 1 0\nreply 2 1099511627776\n"
unfolding first entries get insert remove empty len collect at_new make effect changing closing in_session opening by_session decision after listing digits
first_is = refl

-- a second link that outlives the first
links : List ClientRequest
links = ask 4 1 100 SessionOpen ∷ ask 4 2 101 (Create (codes "f" ∷ []) 0o644) ∷ ask 4 3 102 (Link (codes "f" ∷ []) (codes "h" ∷ [])) ∷ ask 4 4 103 (Unlink (codes "f" ∷ [])) ∷ []

links_are : listing (after_all (new_state 0) links) false ≡ codes "/\n/h file 0644 0 0 0 101 1 1099511627776\n"
unfolding links entries get insert remove empty len collect at_new make link unlink effect changing closing in_session opening by_session decision after listing digits
links_are = refl

-- an open file without a name, and its end
opens : List ClientRequest
opens = ask 4 1 100 SessionOpen ∷ ask 4 2 101 (Create (codes "f" ∷ []) 0o644) ∷ ask 4 3 102 (OpenFile (codes "f" ∷ [])) ∷ ask 4 4 103 (Unlink (codes "f" ∷ [])) ∷ []

opens_are : listing (after_all (new_state 0) opens) false ≡ codes "/\nkept 1099511627776 file 0644 0 0 0 101 0\nopen 4 1099511627776\n"
unfolding opens entries get insert remove empty len collect at_new make unlink open_file effect changing closing in_session opening by_session decision after listing digits
opens_are = refl

released_are : listing (after_all (new_state 0) (opens ++ (ask 4 5 110 (Release 1099511627776) ∷ []))) false ≡ codes "/\n"
unfolding opens entries get insert remove empty len collect at_new make unlink open_file release effect changing closing in_session opening by_session decision after listing digits
released_are = refl

-- ordinary use, with a retry, a name that is missing and a name that is there
abbrev home : List ℕ
home = codes "home"

abbrev notes : List (List ℕ)
notes = home ∷ codes "ann" ∷ codes "notes.txt" ∷ []

ordinary : List ClientRequest
ordinary = ask 4 1 1000 SessionOpen ∷ ask 5 1 1000 SessionOpen ∷ ask 6 1 1000 SessionOpen
    ∷ ask 4 2 1001 (Mkdir (home ∷ []) 0o755) ∷ ask 4 3 1001 (Mkdir (home ∷ codes "ann" ∷ []) 0o755)
    ∷ ask 5 2 1002 (Create notes 0o644) ∷ ask 6 2 1002 (Lookup notes) ∷ ask 5 3 1003 (SetAttr notes 0o640 1000 1000 512 1003)
    ∷ ask 4 4 1004 (Rename notes (home ∷ codes "todo.txt" ∷ [])) ∷ ask 4 5 1005 (Unlink (home ∷ codes "missing" ∷ []))
    ∷ ask 4 4 1004 (Rename notes (home ∷ codes "todo.txt" ∷ [])) ∷ ask 4 6 1006 (Readdir (home ∷ [])) ∷ ask 4 6 1006 (Mkdir (home ∷ []) 0o755) ∷ []

abbrev written : Attributes
written = record { kind = kind.File; mode = 0o644; uid = 0; gid = 0; size = 0; mtime = 1002; target = [] }

ordinary_is : replies (new_state 0) ordinary ≡ reply.Done 0 ∷ reply.Done 0 ∷ reply.Done 0 ∷ reply.Done 1099511627776 ∷ reply.Done 1099511627777 ∷ reply.Done 1099511627778
    ∷ reply.Found (record_of 1099511627778 1 written) ∷ reply.Done 1099511627778 ∷ reply.Done 1099511627778 ∷ reply.Error 2 ∷ reply.Done 1099511627778
    ∷ reply.Names (codes "ann" ∷ codes "todo.txt" ∷ []) ∷ reply.Error 17 ∷ []
unfolding ordinary entries get insert remove empty len collect at_new make unlink rename rename_over set_attr lookup readdir effect changing closing in_session opening by_session decision answer after
ordinary_is = refl

listing_is : listing (after_all (new_state 0) ordinary) false ≡ codes "/\n/home dir 0755 0 0 0 1001 1 1099511627776\n/home/ann dir 0755 0 0 0 1001 1 1099511627777\n/home/todo.txt file 0640 1000 1000 512 1003 1 1099511627778\n"
unfolding ordinary entries get insert remove empty len collect at_new make unlink rename rename_over set_attr lookup readdir effect changing closing in_session opening by_session decision after listing digits
listing_is = refl

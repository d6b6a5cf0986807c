use Rattle.std.proofs.Common.{◌≡◌, List, ℕ, Option, Some, None, IfSome}
use Rattle.mj_tree.specs.Request.{IsRequest}
use Rattle.mj_tree.specs.declared.request.ClientRequest.{ClientRequest}
use Rattle.mj_texts.specs.Words.{Reads}
use Rattle.mj_texts.specs.Request.{request_of}
use Rattle.mj_texts.proofs.request.read_request.Goals as goal

read_fits : (ws left : List (List ℕ)) (o : Option ClientRequest) → ((x : ClientRequest × List (List ℕ)) → request_of ws ≡ Some x → IsRequest x.0) → Reads request_of ws o left → IfSome o IsRequest
read_fits ws left None law h = tt
read_fits ws left (Some r) law h = law (r, left) h

pub returns-clause-fits : goal.returns-clause-fits
returns-clause-fits c = read_fits c.args.words.now c.read_fields.new.words _ (λ x h. (c.requests_are_read_from_their_spellings.ensures.takes c.args.words.now x h).1) c.in_ok-request.ensures

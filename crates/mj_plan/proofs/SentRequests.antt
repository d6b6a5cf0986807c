-- A request whose numbers fit their types can be sent.
use Rattle.std.proofs.Common.{◌<◌, ◌^◌}
use Rattle.mj_tree.specs.declared.request.ClientRequest.{ClientRequest}
use Rattle.mj_tree.specs.Request.{IsRequest}
use Rattle.mj_delta.specs.Fits.{IsSent, OpFits}

pub is_sent : (r : ClientRequest) → IsRequest r → r.client < 2 ^ 32 → r.tid < 2 ^ 64 → r.oldest < 2 ^ 64 → r.now < 2 ^ 64 → OpFits r.op → IsSent r
is_sent r request client tid oldest now op = record { request = request; client = client; tid = tid; oldest = oldest; now = now; op = op }

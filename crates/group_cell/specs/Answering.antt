-- Which request a post answers.
use Rattle.pg_log.specs.Requests.{ClientRequest}
use Rattle.group_cell.specs.declared.post.Post.{Post}
use Rattle.group_cell.specs.declared.post.Post.TheVariants.{Reply, Refused}

-- the request that was replied to, or that is refused
abbrev pub request_in : {N : Type 0} → Post N → ClientRequest
request_in (Reply r) = r.request
request_in (Refused r) = r.request

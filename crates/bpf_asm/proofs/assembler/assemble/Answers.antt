use Rattle.std.proofs.Common.{rules}
use Rattle.bpf_asm.proofs.GrammarLemmas.{none_if_refused, one_if_read, text_if_read}
use Rattle.bpf_asm.proofs.FirstFaults.{first_if_refused, faultless_if_read}
use Rattle.bpf_asm.proofs.assembler.assemble.Goals as goal

pub returns-clause-found : goal.returns-clause-found
returns-clause-found c = search rules

pub returns-clause-refused : goal.returns-clause-refused
returns-clause-refused c = search rules

pub returns-clause-grammar : goal.returns-clause-grammar
returns-clause-grammar c = text_if_read (λ v. v.items) c.read_text.result c.args.text.now (returns-clause-found c)

pub returns-clause-one : goal.returns-clause-one
returns-clause-one c = one_if_read (λ v. v.items) c.read_text.result c.args.text.now (returns-clause-found c)

pub returns-clause-only : goal.returns-clause-only
returns-clause-only c = none_if_refused c.read_text.result c.args.text.now (returns-clause-refused c)

pub returns-clause-first : goal.returns-clause-first
returns-clause-first c = first_if_refused c.read_text.result c.args.text.now (returns-clause-refused c)

pub returns-clause-faultless : goal.returns-clause-faultless
returns-clause-faultless c = faultless_if_read (λ v. v.items) c.read_text.result c.args.text.now (returns-clause-found c)

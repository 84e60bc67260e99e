use Rattle.std.proofs.Common.{Some, true, false, refl}
use Rattle.part_bytes.specs.Part.{Content}
use Rattle.txn.specs.Staging.{kept}
use Rattle.parts.specs.Known.{KnownObject}
use Rattle.parts.proofs.Begun.{is_begun, whole_names, all_known, absent_held}
use Rattle.parts.proofs.staged_part.StagedPart.of.Goals as goal

pub returns-in_default-clause-known : goal.returns-in_default-clause-known
returns-in_default-clause-known c =
    let k : KnownObject = record { present = false; bytes = c.empty.result; xattrs = c.all_known.result; keys = c.all_known-in_default.result; list = kept (Some c.new.result) } in
    all_known c.args.part k c.in_default.is c.empty.ensures.known c.all_known.ensures.value c.all_known-in_default.ensures.value

pub returns-in_default-clause-whole_xattrs : goal.returns-in_default-clause-whole_xattrs
returns-in_default-clause-whole_xattrs c = λ all. absent_held c.all_known.result 32 c.all_known.ensures.value

pub returns-in_default-clause-whole_keys : goal.returns-in_default-clause-whole_keys
returns-in_default-clause-whole_keys c = λ all. absent_held c.all_known-in_default.result 1024 c.all_known-in_default.ensures.value

pub returns-clause-stands : goal.returns-clause-stands
returns-clause-stands c =
    let k : KnownObject = record { present = true; bytes = c.in_ok-data_of.field-0; xattrs = c.in_ok-names_of.field-0; keys = c.in_ok-names_of-2.field-0; list = kept (Some c.new-2.result) } in
    (is_begun c.args.part c.in-Some.part c.in-Some.is k c.deref.result.now refl c.deref.ensures.value c.requires c.in_ok-data_of.ensures c.in_ok-names_of.ensures c.in_ok-names_of-2.ensures).stands

pub returns-clause-agrees : goal.returns-clause-agrees
returns-clause-agrees c =
    let k : KnownObject = record { present = true; bytes = c.in_ok-data_of.field-0; xattrs = c.in_ok-names_of.field-0; keys = c.in_ok-names_of-2.field-0; list = kept (Some c.new-2.result) } in
    (is_begun c.args.part c.in-Some.part c.in-Some.is k c.deref.result.now refl c.deref.ensures.value c.requires c.in_ok-data_of.ensures c.in_ok-names_of.ensures c.in_ok-names_of-2.ensures).agrees

pub returns-clause-known : goal.returns-clause-known
returns-clause-known c =
    let k : KnownObject = record { present = true; bytes = c.in_ok-data_of.field-0; xattrs = c.in_ok-names_of.field-0; keys = c.in_ok-names_of-2.field-0; list = kept (Some c.new-2.result) } in
    (is_begun c.args.part c.in-Some.part c.in-Some.is k c.deref.result.now refl c.deref.ensures.value c.requires c.in_ok-data_of.ensures c.in_ok-names_of.ensures c.in_ok-names_of-2.ensures).known

pub returns-clause-whole_xattrs : goal.returns-clause-whole_xattrs
returns-clause-whole_xattrs c = whole_names c.args.part c.in-Some.part c.in-Some.is (λ (p : Content). p.xattrs) 32 c.in_ok-names_of.field-0 c.in_ok-names_of.ensures

pub returns-clause-whole_keys : goal.returns-clause-whole_keys
returns-clause-whole_keys c = whole_names c.args.part c.in-Some.part c.in-Some.is (λ (p : Content). p.keys) 1024 c.in_ok-names_of-2.field-0 c.in_ok-names_of-2.ensures

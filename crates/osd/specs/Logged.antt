-- What is reported of a node's log.
use Rattle.std.specs.Prelude.{◌≡◌, List, map}
use Rattle.std.specs.FinMap as fin
use Rattle.pg_log.specs.Log.{Classes, Legal}
use Rattle.pg_log.specs.Entries.{AreEntries, requests_of}
use Rattle.pg_log.specs.declared.entry.Entry.{Entry}
use Rattle.osd.specs.declared.logged.LoggedEntry.{LoggedEntry}

-- the client and the number of an entry's request, and the code that it was answered
abbrev pub logged_entry : Entry → LoggedEntry
logged_entry e = record { client = e.request.client; number = e.request.number; code = e.code }

-- a legal list is reported, with the code that each request is answered in it
pub record IsLogOf (classes : Classes) (items : List LoggedEntry) : Type 0 where
  pub entries : List Entry
  pub listed : items ≡ map logged_entry entries
  pub legal : Legal classes (requests_of entries)
  pub kept : AreEntries classes fin.empty entries

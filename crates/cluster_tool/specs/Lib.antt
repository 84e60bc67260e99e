-- A reader must believe Config (the cluster that the first line's numbers make), Answers (what is
-- true of the ends of calls), Played (how a plan may end) and Clustering (what is printed, or why
-- nothing was done). Callers says what each client's thread does; nothing above cites it.
pub mod Answers
pub mod Callers
pub mod Clustering
pub mod Config
pub mod Played

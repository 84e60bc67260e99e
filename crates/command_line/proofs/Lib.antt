mod Built
mod NoParse

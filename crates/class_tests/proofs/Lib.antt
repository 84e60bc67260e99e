mod Passes
mod Spending
mod Calling

mod Allowances
mod Begin
mod Held
mod Lists
mod Steps
mod Weighed

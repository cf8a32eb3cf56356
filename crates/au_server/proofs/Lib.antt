mod Returning
mod Sends
mod Written
